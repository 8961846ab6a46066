use Rattle.std.proofs.Common.{take}
use Rattle.tup_core.specs.Walk.{Raises}
use Rattle.tup_core.proofs.waiting.raise.Given as goal

abbrev pub invariant-loop-place : goal.invariant-loop-place
invariant-loop-place l = Raises (take l.place-index l.places) l.fn.flags l.flags
