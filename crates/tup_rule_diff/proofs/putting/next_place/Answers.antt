use Rattle.std.proofs.Common.{ap, length, ◌∙◌}
use Rattle.tup_path.specs.Order.{same_path}
use Rattle.tup_closure.specs.Lists.{list_of}
use Rattle.tup_rule_diff.proofs.Placing.{longer}
use Rattle.tup_rule_diff.proofs.putting.next_place.Goals as goal

pub returns-clause-ok : goal.returns-clause-ok
returns-clause-ok c = λ folder. ap length (c.in_ok-add.ensures.ok folder) ∙ longer (same_path folder c.args.dir.now) (list_of c.args.places.now folder) c.in_ok-place.place
