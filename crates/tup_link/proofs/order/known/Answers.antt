use Rattle.tup_link.proofs.Knowing.{knows_none, knows_take}
use Rattle.tup_link.proofs.order.known.Goals as goal

pub loop-path-init : goal.loop-path-init
loop-path-init c = knows_none c.new-known.result c.new-known.ensures.empty

pub loop-path-preserved : goal.loop-path-preserved
loop-path-preserved c =
    knows_take c.loop-path.known c.insert.new.self c.args.paths.now c.loop-path.path-index c.path-item.result c.in_ok-clone.field-0 c.loop-path-test.true c.path-item.is c.loop-path.invariant
    c.in_ok-insert.ensures.updates c.in_ok-clone.ensures.cases
