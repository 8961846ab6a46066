use Rattle.tup_core.proofs.WaitingLaws.{AreFilled}
use Rattle.tup_core.proofs.waiting.fill_waiters.Given as goal

abbrev pub invariant-loop-at : goal.invariant-loop-at
invariant-loop-at l = AreFilled l.readers l.reached l.entries l.at l.seen l.waiters.items
