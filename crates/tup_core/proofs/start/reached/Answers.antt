use Rattle.std.proofs.Common.{◌∙◌, arith}
use Rattle.std.proofs.lemmas.List.{length-set}
use Rattle.tup_core.proofs.MachineLaws.{next_reached, next_marked}
use Rattle.tup_core.proofs.start.reached.Goals as goal

pub index_mut-requires : goal.index_mut-requires
index_mut-requires c =
    let below = next_reached c.args.plan.now c.as_slice-at-items.result.now c.loop-at.at-index c.requires c.as_slice-at-items.ensures c.loop-at-test.true in
    omega (arith, below, c.loop-at.invariant.long, c.loop-at.flags.ok.0)

pub loop-at-preserved : goal.loop-at-preserved
loop-at-preserved c = record {
  long = length-set c.loop-at.flags.items _ _ ∙ c.loop-at.invariant.long;
  marked = next_marked c.args.plan.now c.as_slice-at-items.result.now c.loop-at.at-index c.loop-at.flags.items c.requires c.as_slice-at-items.ensures c.loop-at-test.true c.loop-at.invariant.long c.loop-at.invariant.marked;
}
