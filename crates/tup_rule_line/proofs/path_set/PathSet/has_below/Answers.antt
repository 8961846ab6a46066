use Rattle.std.proofs.Common.{ap, ◌∙◌}
use Rattle.std.specs.List.{list_any}
use Rattle.tup_rule_line.specs.Below.{is_below}
use Rattle.tup_rule_line.proofs.path_set.PathSet.has_below.Goals as goal

pub returns : goal.returns
returns c = c.contains.ensures ∙ c.self.invariant c.args.path.now ∙ ap (list_any (is_below c.args.path.now)) c.self.view_is
