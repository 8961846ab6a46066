use Rattle.std.proofs.Common.{◌≡◌, ℕ, take}
use Rattle.tup_schedule.specs.Marks.{IsMarks}
use Rattle.tup_schedule.specs.Turn.{IsTold}
use Rattle.tup_schedule.proofs.turn.mark_waiters.Given as goal

abbrev pub invariant-loop-at : goal.invariant-loop-at
invariant-loop-at l = record {
  marks : IsMarks l.marks;
  same : l.marks.places ≡ l.fn.marks.places;
  told : (at : ℕ) → IsTold l.core (take l.at-index l.places) l.fn.marks l.marks at;
}
