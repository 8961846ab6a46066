use Rattle.std.proofs.Common.{get_or, refl}
use Rattle.tup_core.proofs.WalkLaws.{flagged_more}
use Rattle.tup_core.proofs.walk.flagged.Goals as goal

pub loop-place-preserved : goal.loop-place-preserved
loop-place-preserved c =
    flagged_more c.args.places.now c.loop-place.place-index (get_or c.args.places.now c.loop-place.place-index 0) c.args.flags.now c.loop-place.kept _ c.loop-place-test.true refl c.loop-place.invariant c.in_ok-keep.ensures
