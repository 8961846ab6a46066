use Rattle.std.proofs.Common.{◌≡◌, take}
use Rattle.tup_graph.proofs.rule_list.copies.Given as goal

abbrev pub invariant-loop-rule : goal.invariant-loop-rule
invariant-loop-rule l = l.copies ≡ take l.rule-index l.rules
