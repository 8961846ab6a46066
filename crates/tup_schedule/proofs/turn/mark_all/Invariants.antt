use Rattle.std.proofs.Common.{take}
use Rattle.tup_schedule.proofs.TurnLaws.{AreTold}
use Rattle.tup_schedule.proofs.turn.mark_all.Given as goal

abbrev pub invariant-loop-at : goal.invariant-loop-at
invariant-loop-at l = AreTold l.core l.fn.marks l.marks (take l.at-index l.places)
