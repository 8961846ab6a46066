use Rattle.tup_graph.proofs.Printing.{path_added}
use Rattle.tup_graph.proofs.print_lists.PrintLists.add_paths.Goals as goal

pub loop-path-preserved : goal.loop-path-preserved
loop-path-preserved c =
    path_added c.args.number c.args.paths.now c.loop-path.path-index c.path-item.result c.args.self.now c.loop-path.self c.add.new.self c.loop-path-test.true c.path-item.is
    c.loop-path.invariant c.in_ok-add.ensures
