use Rattle.std.proofs.Common.{◌≡◌, ◌+◌, ◌-◌, ◌<◌, get_or, length, refl, arith, rules}
use Rattle.std.proofs.lemmas.Option.{unwrap_or-slice_get}
use Rattle.tup_core.specs.Waiting.{number}
use Rattle.tup_core.proofs.ItemLaws.{number_within}
use Rattle.tup_core.proofs.WaitingLaws.{down_none, down_more, down_some}
use Rattle.tup_core.proofs.waiting.take_each.Goals as goal

pub bounds-counts-place : goal.bounds-counts-place
bounds-counts-place c = number_within c.loop-place.counts _ (down_some c.args.places.now c.loop-place.place-index c.args.counts.now c.loop-place.counts c.requires c.loop-place-test.true c.loop-place.invariant)

pub bounds-counts-place-in-loop-place : goal.bounds-counts-place-in-loop-place
bounds-counts-place-in-loop-place c = number_within c.loop-place.counts _ (down_some c.args.places.now c.loop-place.place-index c.args.counts.now c.loop-place.counts c.requires c.loop-place-test.true c.loop-place.invariant)

pub offset_bounds-counts-place : goal.offset_bounds-counts-place
offset_bounds-counts-place c =
    let within : get_or c.args.places.now c.loop-place.place-index 0 < length c.loop-place.counts =
    number_within c.loop-place.counts _ (down_some c.args.places.now c.loop-place.place-index c.args.counts.now c.loop-place.counts c.requires c.loop-place-test.true c.loop-place.invariant) in
    search (rules, within)

pub overflow_sub-counts : goal.overflow_sub-counts
overflow_sub-counts c =
    let some = down_some c.args.places.now c.loop-place.place-index c.args.counts.now c.loop-place.counts c.requires c.loop-place-test.true c.loop-place.invariant in
    let is = unwrap_or-slice_get c.loop-place.counts (get_or c.args.places.now c.loop-place.place-index 0) 0 in
    omega (arith, some, is)

pub loop-place-init : goal.loop-place-init
loop-place-init c = down_none c.args.counts.now

pub loop-place-preserved : goal.loop-place-preserved
loop-place-preserved c =
    let place = get_or c.args.places.now c.loop-place.place-index 0 in
    let some = down_some c.args.places.now c.loop-place.place-index c.args.counts.now c.loop-place.counts c.requires c.loop-place-test.true c.loop-place.invariant in
    let is = unwrap_or-slice_get c.loop-place.counts (get_or c.args.places.now c.loop-place.place-index 0) 0 in
    let lowered : get_or c.loop-place.counts (get_or c.args.places.now c.loop-place.place-index 0) 0 - 1 + 1 ≡ number c.loop-place.counts (get_or c.args.places.now c.loop-place.place-index 0) = omega (arith, some, is) in
    down_more c.args.places.now c.loop-place.place-index place c.args.counts.now c.loop-place.counts _ c.loop-place-test.true refl (number_within c.loop-place.counts _ some) lowered c.loop-place.invariant
