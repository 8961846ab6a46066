use Rattle.std.proofs.Common.{take}
use Rattle.tup_rule_diff.specs.Before.{AreNumbersBefore}
use Rattle.tup_rule_diff.proofs.before.numbers_before.Given as goal

abbrev pub invariant-loop-rule : goal.invariant-loop-rule
invariant-loop-rule l = AreNumbersBefore l.nodes (take l.rule-index l.rules) l.befores
