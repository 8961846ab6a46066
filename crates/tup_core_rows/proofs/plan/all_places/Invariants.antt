use Rattle.tup_core_rows.specs.Places.{AreBelow}
use Rattle.tup_core_rows.proofs.plan.all_places.Given as goal

abbrev pub invariant-loop-place : goal.invariant-loop-place
invariant-loop-place l = AreBelow l.place l.places
