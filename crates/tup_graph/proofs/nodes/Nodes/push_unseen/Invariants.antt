use Rattle.std.proofs.Common.{◌≡◌, ◌++◌, filter_map, drop}
use Rattle.tup_graph.specs.Transactions.{unseen}
use Rattle.tup_graph.proofs.nodes.Nodes.push_unseen.Given as goal

abbrev pub invariant-loop-path : goal.invariant-loop-path
invariant-loop-path l = l.edits ++ filter_map (unseen l.self) (drop l.path-index l.paths) ≡ l.fn.edits ++ filter_map (unseen l.self) l.paths
