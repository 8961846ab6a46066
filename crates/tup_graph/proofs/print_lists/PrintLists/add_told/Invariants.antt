use Rattle.std.proofs.Common.{take}
use Rattle.tup_graph.specs.Lists.{Adds, IsIn}
use Rattle.tup_graph.proofs.print_lists.PrintLists.add_told.Given as goal

abbrev pub invariant-loop-path : goal.invariant-loop-path
invariant-loop-path g l = Adds l.number (IsIn (take l.path-index l.told)) l.fn.self l.self
