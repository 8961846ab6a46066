use Rattle.tup_rule_diff.proofs.Asking.{HasFirst}
use Rattle.tup_rule_diff.proofs.asked.new_outputs.Given as goal

abbrev pub invariant-loop-at : goal.invariant-loop-at
invariant-loop-at l = HasFirst l.rules l.befores l.at l.outputs
