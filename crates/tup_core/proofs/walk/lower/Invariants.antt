use Rattle.std.proofs.Common.{take}
use Rattle.tup_core.proofs.WalkLaws.{IsLowered}
use Rattle.tup_core.proofs.walk.lower.Given as goal

abbrev pub invariant-loop-place : goal.invariant-loop-place
invariant-loop-place l = IsLowered (take l.place-index l.places) l.fn.flags l.flags
