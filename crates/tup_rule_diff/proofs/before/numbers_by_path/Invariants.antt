use Rattle.std.proofs.Common.{take}
use Rattle.tup_rule_diff.specs.Before.{AreNumbersByPath}
use Rattle.tup_rule_diff.proofs.before.numbers_by_path.Given as goal

abbrev pub invariant-loop-at : goal.invariant-loop-at
invariant-loop-at l = AreNumbersByPath (take l.at l.rules) l.numbers
