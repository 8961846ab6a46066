use Rattle.std.proofs.Common.{take}
use Rattle.tup_core.proofs.WaitingLaws.{CountsDown}
use Rattle.tup_core.proofs.waiting.take_each.Given as goal

abbrev pub invariant-loop-place : goal.invariant-loop-place
invariant-loop-place l = CountsDown (take l.place-index l.places) l.fn.counts l.counts
