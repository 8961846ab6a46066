use Rattle.std.proofs.Common.{get_or, refl, arith}
use Rattle.tup_clean.proofs.Counting.{count_of-here}
use Rattle.tup_core.proofs.WaitingLaws.{counts_enough, counts_step, counts_all}
use Rattle.tup_core.proofs.waiting.take_all.Goals as goal

pub loop-place-init : goal.loop-place-init
loop-place-init c = record { fewer = λ at. omega arith; counted = λ pending held. held }

pub take_one-requires-clause-place : goal.take_one-requires-clause-place
take_one-requires-clause-place c = c.requires.within _ (count_of-here c.args.places.now c.loop-place.place-index c.loop-place-test.true)

pub take_one-requires-clause-taken : goal.take_one-requires-clause-taken
take_one-requires-clause-taken c =
    counts_enough c.args.lists.now c.args.reached.now c.requires.held.0 c.args.places.now c.loop-place.place-index (get_or c.args.places.now c.loop-place.place-index 0) c.loop-place-test.true refl c.loop-place.waits
    (c.loop-place.invariant.counted c.requires.held.0 c.requires.held.1)

pub loop-place-preserved : goal.loop-place-preserved
loop-place-preserved c = record {
  fewer = λ at. let one = c.take_one.ensures at in let before = c.loop-place.invariant.fewer at in omega (arith, one, before);
  counted = λ pending held.
      counts_step c.args.lists.now c.args.reached.now pending c.args.places.now c.loop-place.place-index (get_or c.args.places.now c.loop-place.place-index 0) c.loop-place-test.true refl c.loop-place.waits c.take_one.new.waits
      c.requires.inner (c.loop-place.invariant.counted pending held) c.take_one.ensures;
}

pub returns-clause-fewer : goal.returns-clause-fewer
returns-clause-fewer c = c.loop-place.invariant.fewer

pub returns-clause-counted : goal.returns-clause-counted
returns-clause-counted c = λ pending held.
    counts_all c.args.lists.now c.args.reached.now pending c.args.places.now c.loop-place.waits c.loop-place.place-index (omega arith) (c.loop-place.invariant.counted pending held)
