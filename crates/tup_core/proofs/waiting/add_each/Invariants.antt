use Rattle.std.proofs.Common.{take}
use Rattle.tup_core.proofs.WaitingLaws.{CountsUp}
use Rattle.tup_core.proofs.waiting.add_each.Given as goal

abbrev pub invariant-loop-place : goal.invariant-loop-place
invariant-loop-place l = CountsUp (take l.place-index l.places) l.fn.counts l.counts
