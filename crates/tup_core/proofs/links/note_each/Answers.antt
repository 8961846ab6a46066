use Rattle.std.proofs.Common.{◌<◌, length, get_or, set, refl, ap, arith, rules}
use Rattle.std.proofs.lemmas.List.{length-set}
use Rattle.std.proofs.lemmas.Option.{slice_get-get_or}
use Rattle.tup_clean.proofs.Counting.{count_of-here}
use Rattle.tup_clean.proofs.Queueing.{noted_more}
use Rattle.tup_core.proofs.links.note_each.Goals as goal

pub bounds-lists-producer : goal.bounds-lists-producer
bounds-lists-producer c =
    let below = c.requires _ (count_of-here c.args.producers.now c.loop-producer.producer-index c.loop-producer-test.true) in
    omega (arith, below, c.loop-producer.invariant.many)

pub offset_bounds-lists-producer : goal.offset_bounds-lists-producer
offset_bounds-lists-producer c =
    let below = c.requires _ (count_of-here c.args.producers.now c.loop-producer.producer-index c.loop-producer-test.true) in
    let within : get_or c.args.producers.now c.loop-producer.producer-index 0 < length c.loop-producer.lists = omega (arith, below, c.loop-producer.invariant.many) in
    search (rules, within)

pub loop-producer-preserved : goal.loop-producer-preserved
loop-producer-preserved c =
    let p = get_or c.args.producers.now c.loop-producer.producer-index 0 in
    let below = c.requires _ (count_of-here c.args.producers.now c.loop-producer.producer-index c.loop-producer-test.true) in
    let within : p < length c.loop-producer.lists = omega (arith, below, c.loop-producer.invariant.many) in
    noted_more c.args.reader c.args.producers.now c.args.lists.now c.loop-producer.lists _ c.loop-producer.producer-index p _ c.loop-producer.invariant c.loop-producer-test.true refl
    (slice_get-get_or c.loop-producer.lists p _ within) (ap (set c.loop-producer.lists p) c.in_ok-push.ensures.ok) (length-set c.loop-producer.lists p _)
