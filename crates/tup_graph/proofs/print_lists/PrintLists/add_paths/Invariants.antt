use Rattle.std.proofs.Common.{take}
use Rattle.std.specs.Prelude.{Contains}
use Rattle.tup_graph.specs.Lists.{Adds}
use Rattle.tup_graph.proofs.print_lists.PrintLists.add_paths.Given as goal

abbrev pub invariant-loop-path : goal.invariant-loop-path
invariant-loop-path l = Adds l.number (Contains (take l.path-index l.paths)) l.fn.self l.self
