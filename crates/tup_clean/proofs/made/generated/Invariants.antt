use Rattle.std.proofs.Common.{◌≡◌, drop}
use Rattle.std.specs.BTreeSet.{contains}
use Rattle.tup_path.specs.Name.{Names}
use Rattle.tup_path.specs.Order.{by_names}
use Rattle.tup_rule.specs.Rule.{is_generated}
use Rattle.tup_clean.proofs.made.generated.Given as goal

abbrev pub invariant-loop-at : goal.invariant-loop-at
invariant-loop-at l = (path : Names) → contains by_names l.set path ≡ is_generated (drop l.at l.rules) path
