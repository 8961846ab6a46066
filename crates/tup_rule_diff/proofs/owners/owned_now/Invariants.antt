use Rattle.std.proofs.Common.{take}
use Rattle.tup_rule_diff.specs.Owners.{AreOwned}
use Rattle.tup_rule_diff.proofs.owners.owned_now.Given as goal

abbrev pub invariant-loop-at : goal.invariant-loop-at
invariant-loop-at l = AreOwned (take l.at l.rules) l.nodes.owned l.owned
