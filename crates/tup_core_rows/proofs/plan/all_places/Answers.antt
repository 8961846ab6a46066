use Rattle.std.proofs.Common.{◌+◌, length, sym, ap, subst, arith}
use Rattle.tup_core_rows.specs.Places.{AreBelow}
use Rattle.tup_core_rows.proofs.Placing.{places_more}
use Rattle.tup_core_rows.proofs.plan.all_places.Goals as goal

pub loop-place-init : goal.loop-place-init
loop-place-init c = record { many = ap length c.new-places.ensures; each = λ k below. absurd (omega (arith, below)) }

pub loop-place-preserved : goal.loop-place-preserved
loop-place-preserved c = subst (AreBelow (c.loop-place.place + 1)) (sym c.in_ok-push.ensures.ok) (places_more c.loop-place.place c.loop-place.places c.loop-place.invariant)
