use Rattle.std.proofs.Common.{take}
use Rattle.tup_core.specs.Walk.{Notes}
use Rattle.tup_core.proofs.walk.note_all.Given as goal

abbrev pub invariant-loop-place : goal.invariant-loop-place
invariant-loop-place l = Notes (take l.place-index l.places) l.fn.seen l.fn.found l.seen l.found
