use Rattle.tup_access.proofs.Adding.{added}
use Rattle.tup_compare.proofs.found.add_paths.Goals as goal

pub loop-path-preserved : goal.loop-path-preserved
loop-path-preserved c = λ path.
    added c.args.paths.now c.loop-path.path-index c.path-item.result c.in_ok-clone.field-0 path _ _ _ c.loop-path-test.true c.path-item.is c.in_ok-clone.ensures.cases
    (c.loop-path.invariant path)
    (c.in_ok-insert.ensures.updates.0 path)
