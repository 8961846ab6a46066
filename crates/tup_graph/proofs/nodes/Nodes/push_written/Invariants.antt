use Rattle.std.proofs.Common.{◌≡◌, ◌++◌, map, drop}
use Rattle.tup_graph.specs.Transactions.{written}
use Rattle.tup_graph.proofs.nodes.Nodes.push_written.Given as goal

abbrev pub invariant-loop-path : goal.invariant-loop-path
invariant-loop-path l = l.edits ++ map (written l.self l.rule) (drop l.path-index l.path-items) ≡ l.fn.edits ++ map (written l.self l.rule) l.path-items
