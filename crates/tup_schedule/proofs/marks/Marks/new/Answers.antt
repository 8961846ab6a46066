use Rattle.tup_schedule.specs.declared.marks.Marks.{Marks}
use Rattle.tup_schedule.proofs.MarksLaws.{no_marks}
use Rattle.tup_schedule.proofs.marks.Marks.new.Goals as goal

pub returns-clause-marks : goal.returns-clause-marks
returns-clause-marks c =
    let new : Marks = record { places = c.places_for-places.result; nodes = c.in_ok-vec.field-0 } in
    (no_marks new c.places_for-places.ensures.power c.places_for-places.ensures.few (c.in_ok-vec.ensures.items_if_clones_equal (λ y same. same))).0

pub returns-clause-none : goal.returns-clause-none
returns-clause-none c =
    let new : Marks = record { places = c.places_for-places.result; nodes = c.in_ok-vec.field-0 } in
    (no_marks new c.places_for-places.ensures.power c.places_for-places.ensures.few (c.in_ok-vec.ensures.items_if_clones_equal (λ y same. same))).1
