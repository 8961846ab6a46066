use Rattle.tup_graph.proofs.Printing.{told_added}
use Rattle.tup_graph.proofs.print_lists.PrintLists.add_told.Goals as goal

pub loop-path-preserved : goal.loop-path-preserved
loop-path-preserved g c =
    told_added c.args.number c.args.told.now c.loop-path.path-index c.loop-path-item.result c.args.self.now c.loop-path.self c.add.new.self c.loop-path-test.true c.loop-path-item.is
    c.loop-path.invariant c.in_ok-add.ensures
