use Rattle.tup_field.proofs.Names.{read_more}
use Rattle.tup_field.proofs.path.read_all_below.Goals as goal

pub loop-preserved : goal.loop-preserved
loop-preserved c =
    let next = c.in_ok-path.ensures in
    read_more c.loop.path c.in_ok-path.path c.args.depth c.loop.counter c.loop.reader c.read_below.new.reader c.args.reader.now next.0 c.loop-test.true next.1 next.2 c.loop.invariant.0 c.loop.invariant.1
