use Rattle.tup_closure.proofs.Listed.{one_listed}
use Rattle.tup_why.proofs.Making.{one_of_none, one_of_more}
use Rattle.tup_why.proofs.makers.add_outputs.Goals as goal

pub loop-path-init : goal.loop-path-init
loop-path-init c = one_of_none c.args.number c.args.makers.now

pub loop-path-preserved : goal.loop-path-preserved
loop-path-preserved c =
    let path = c.path-item.result in
    one_of_more c.args.outputs.now c.loop-path.path-index path path c.args.number c.args.makers.now c.loop-path.makers c.add.new.self c.loop-path-test.true c.path-item.is
    c.loop-path.invariant (one_listed c.loop-path.makers c.add.new.self path c.args.number c.in_ok-add.ensures.ok)
