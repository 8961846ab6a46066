use Rattle.std.proofs.Common.{take}
use Rattle.tup_access.proofs.Writes.{HasFirst}
use Rattle.tup_access.proofs.judging.unwritten.Given as goal

abbrev pub invariant-loop-output : goal.invariant-loop-output
invariant-loop-output l = HasFirst (take l.output-index l.rule.outputs) l.last
