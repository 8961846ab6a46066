use Rattle.std.proofs.Common.{take}
use Rattle.tup_schedule.proofs.TurnLaws.{AreOpened}
use Rattle.tup_schedule.proofs.turn.mark_open.Given as goal

abbrev pub invariant-loop-at : goal.invariant-loop-at
invariant-loop-at l = AreOpened l.core l.fn.marks l.marks (take l.at-index l.numbers)
