use Rattle.std.proofs.Common.{ap, ◌∙◌}
use Rattle.tup_rule.specs.Rule.{among}
use Rattle.tup_refresh.proofs.fetched.Fetched.new.Goals as goal

pub returns : goal.returns
returns c = record { missing = λ path. c.in_ok-missing.ensures path ∙ ap (among path) c.in_ok-paths.ensures; contents = c.new.ensures }
