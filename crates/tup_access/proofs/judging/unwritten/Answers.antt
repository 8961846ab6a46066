use Rattle.tup_access.proofs.Writes.{first_more}
use Rattle.tup_access.proofs.judging.unwritten.Goals as goal

pub loop-output-preserved : goal.loop-output-preserved
loop-output-preserved c =
    first_more c.args.rule.now.outputs c.loop-output.output-index c.output-item.result c.in_ok-clone.field-0 _ _ c.loop-output.invariant
    (rw c.as_slice-output-items.ensures at c.loop-output-test.true)
    (rw c.as_slice-output-items.ensures at c.output-item.is)
    c.in_ok-clone.ensures.cases
    c.in_ok-insert.ensures.updates.0
