use Rattle.std.proofs.Common.{◌+◌, ◌<◌, ℕ, get_or, length, refl, sym, ap, arith, rules}
use Rattle.std.proofs.lemmas.Option.{unwrap_or-slice_get}
use Rattle.tup_clean.proofs.Counting.{count_of-here}
use Rattle.tup_core.proofs.WaitingLaws.{up_none, up_more, up_fits}
use Rattle.tup_core.proofs.waiting.add_each.Goals as goal

pub bounds-counts-place : goal.bounds-counts-place
bounds-counts-place c =
    let below = c.requires.within _ (count_of-here c.args.places.now c.loop-place.place-index c.loop-place-test.true) in
    omega (arith, below, c.loop-place.auto.counts)

pub bounds-counts-place-in-loop-place : goal.bounds-counts-place-in-loop-place
bounds-counts-place-in-loop-place c =
    let below = c.requires.within _ (count_of-here c.args.places.now c.loop-place.place-index c.loop-place-test.true) in
    omega (arith, below, c.loop-place.auto.counts)

pub offset_bounds-counts-place : goal.offset_bounds-counts-place
offset_bounds-counts-place c =
    let below = c.requires.within _ (count_of-here c.args.places.now c.loop-place.place-index c.loop-place-test.true) in
    let within : get_or c.args.places.now c.loop-place.place-index 0 < length c.loop-place.counts = omega (arith, below, c.loop-place.auto.counts) in
    search (rules, within)

pub overflow_add-counts : goal.overflow_add-counts
overflow_add-counts c =
    let is = unwrap_or-slice_get c.loop-place.counts (get_or c.args.places.now c.loop-place.place-index 0) 0 in
    let fits = up_fits c.args.places.now c.loop-place.place-index c.args.counts.now c.loop-place.counts c.requires.fits c.loop-place-test.true c.loop-place.invariant in
    omega (arith, is, fits)

pub loop-place-init : goal.loop-place-init
loop-place-init c = up_none c.args.counts.now

pub loop-place-preserved : goal.loop-place-preserved
loop-place-preserved c =
    let below = c.requires.within _ (count_of-here c.args.places.now c.loop-place.place-index c.loop-place-test.true) in
    let within : get_or c.args.places.now c.loop-place.place-index 0 < length c.loop-place.counts = omega (arith, below, c.loop-place.auto.counts) in
    up_more c.args.places.now c.loop-place.place-index (get_or c.args.places.now c.loop-place.place-index 0) c.args.counts.now c.loop-place.counts _ c.loop-place-test.true refl within
    (ap (λ (n : ℕ). n + 1) (sym (unwrap_or-slice_get c.loop-place.counts (get_or c.args.places.now c.loop-place.place-index 0) 0))) c.loop-place.invariant
