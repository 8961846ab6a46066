use Rattle.std.proofs.Common.{get_or, refl, arith}
use Rattle.tup_clean.proofs.Counting.{count_of-here}
use Rattle.tup_core.proofs.WalkLaws.{notes_none, notes_step}
use Rattle.tup_core.proofs.walk.note_all.Goals as goal

pub note-requires : goal.note-requires
note-requires c =
    let below = c.requires _ (count_of-here c.args.places.now c.loop-place.place-index c.loop-place-test.true) in
    omega (arith, below, c.loop-place.invariant.many)

pub loop-place-init : goal.loop-place-init
loop-place-init c = notes_none c.args.seen.now c.args.found.now

pub loop-place-preserved : goal.loop-place-preserved
loop-place-preserved c =
    notes_step c.args.places.now c.loop-place.place-index (get_or c.args.places.now c.loop-place.place-index 0) c.args.seen.now c.args.found.now c.loop-place.seen c.loop-place.found _ _ c.loop-place-test.true refl
    c.loop-place.invariant c.in_ok-note.ensures
