use Rattle.std.proofs.Common.{◌<◌, get_or, length, refl, arith}
use Rattle.tup_clean.proofs.Counting.{count_of-here}
use Rattle.tup_core.proofs.WalkLaws.{raised_none, raised_more}
use Rattle.tup_core.proofs.waiting.raise.Goals as goal

pub bounds-flags-place : goal.bounds-flags-place
bounds-flags-place c =
    let below = c.requires _ (count_of-here c.args.places.now c.loop-place.place-index c.loop-place-test.true) in
    omega (arith, below, c.loop-place.auto.flags)

pub loop-place-init : goal.loop-place-init
loop-place-init c = raised_none c.args.flags.now

pub loop-place-preserved : goal.loop-place-preserved
loop-place-preserved c =
    let below = c.requires _ (count_of-here c.args.places.now c.loop-place.place-index c.loop-place-test.true) in
    let within : get_or c.args.places.now c.loop-place.place-index 0 < length c.loop-place.flags = omega (arith, below, c.loop-place.auto.flags) in
    raised_more c.args.places.now c.loop-place.place-index (get_or c.args.places.now c.loop-place.place-index 0) c.args.flags.now c.loop-place.flags c.loop-place-test.true refl within c.loop-place.invariant
