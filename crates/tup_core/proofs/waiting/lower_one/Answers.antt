use Rattle.std.proofs.Common.{◌≡◌, ◌+◌, ◌-◌, ◌∷◌, [], get_or, refl, arith}
use Rattle.std.proofs.lemmas.Option.{unwrap_or-slice_get}
use Rattle.tup_core.specs.Waiting.{number}
use Rattle.tup_core.proofs.ItemLaws.{number_within}
use Rattle.tup_core.proofs.WaitingLaws.{down_none, down_more}
use Rattle.tup_core.proofs.waiting.lower_one.Goals as goal

pub bounds-counts-place : goal.bounds-counts-place
bounds-counts-place c = number_within c.args.counts.now c.args.place c.requires

pub overflow_sub-counts : goal.overflow_sub-counts
overflow_sub-counts c =
    let some = c.requires in
    let is = unwrap_or-slice_get c.args.counts.now c.args.place 0 in
    omega (arith, some, is)

pub returns : goal.returns
returns c =
    let place = c.args.place in
    let counts = c.args.counts.now in
    let some = c.requires in
    let is = unwrap_or-slice_get counts place 0 in
    let lowered : get_or counts place 0 - 1 + 1 ≡ number counts place = omega (arith, some, is) in
    down_more (place ∷ []) 0 place counts counts _ (omega arith) refl (number_within counts place some) lowered (down_none counts)
