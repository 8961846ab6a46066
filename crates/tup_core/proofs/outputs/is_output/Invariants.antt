use Rattle.std.proofs.Common.{◌≡◌, false, take}
use Rattle.tup_rule.specs.Rule.{is_generated}
use Rattle.tup_core.proofs.outputs.is_output.Given as goal

abbrev pub invariant-loop-rule : goal.invariant-loop-rule
invariant-loop-rule l = is_generated (take l.rule-index l.rules) l.path ≡ false
