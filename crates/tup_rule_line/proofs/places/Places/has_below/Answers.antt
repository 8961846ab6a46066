use Rattle.std.proofs.Common.{ap, ◌∙◌}
use Rattle.std.specs.List.{list_any}
use Rattle.tup_rule_line.specs.Below.{is_below}
use Rattle.tup_rule_line.proofs.Below.{pass_alike}
use Rattle.tup_rule_line.proofs.places.Places.has_below.Goals as goal

pub returns : goal.returns
returns c =
    c.has_below.ensures ∙ pass_alike (is_below c.args.path.now) c.self.inside.set c.self.inside.paths c.self.invariant ∙ ap (list_any (is_below c.args.path.now)) c.self.view_is
