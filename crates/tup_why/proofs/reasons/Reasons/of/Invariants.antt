use Rattle.std.proofs.Common.{take}
use Rattle.tup_why.specs.Cause.{AreCausesAmong}
use Rattle.tup_why.proofs.reasons.Reasons.of.Given as goal

abbrev pub invariant-loop-number : goal.invariant-loop-number
invariant-loop-number l = AreCausesAmong l.nodes l.plan (take l.number-index l.plan.reach) l.reasons
