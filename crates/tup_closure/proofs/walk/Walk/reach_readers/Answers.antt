use Rattle.std.proofs.Common.{arith}
use Rattle.tup_closure.proofs.Asked.{asked_of_none}
use Rattle.tup_closure.proofs.Stepping.{if_err, looked_less, looked_more}
use Rattle.tup_closure.proofs.Walking.{goes_nowhere, path_more}
use Rattle.tup_closure.proofs.walk.Walk.reach_readers.Goals as goal

pub loop-path-init : goal.loop-path-init
loop-path-init g c = record {
  goes = goes_nowhere c.args.self.now (asked_of_none c.args.graph.now);
  ticked = omega arith;
}

pub loop-path-preserved : goal.loop-path-preserved
loop-path-preserved g c =
    let path = c.path-item.result in
    record {
      goes =
          path_more c.args.graph.now c.args.paths.now c.loop-path.path-index path path c.args.self.now c.loop-path.self c.reach_readers_of.new.self c.loop-path-test.true c.path-item.is
          c.loop-path.invariant.goes c.in_ok-reach_readers_of.ensures.goes;
      ticked =
          looked_more c.args.graph.now c.args.paths.now c.loop-path.path-index path c.args.steps.now c.loop-path.steps c.reach_readers_of.new.steps c.loop-path-test.true c.path-item.is
          c.loop-path.invariant.ticked c.in_ok-reach_readers_of.ensures.steps;
    }

pub returns-in_err-reach_readers_of-clause-fewer : goal.returns-in_err-reach_readers_of-clause-fewer
returns-in_err-reach_readers_of-clause-fewer g c =
    if_err c.from_residual.result
    (looked_less c.args.graph.now c.args.paths.now c.loop-path.path-index c.path-item.result c.args.steps.now c.loop-path.steps c.reach_readers_of.new.steps c.loop-path-test.true c.path-item.is
    c.loop-path.invariant.ticked c.in_err-reach_readers_of.ensures.fewer)
