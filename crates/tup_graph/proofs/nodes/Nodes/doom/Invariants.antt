use Rattle.std.proofs.Common.{◌≡◌, ◌++◌, filter_map, drop}
use Rattle.tup_graph.specs.Transactions.{doomed}
use Rattle.tup_graph.proofs.nodes.Nodes.doom.Given as goal

abbrev pub invariant-loop-path : goal.invariant-loop-path
invariant-loop-path l = l.edits ++ filter_map (doomed l.self) (drop l.path-index l.paths) ≡ filter_map (doomed l.self) l.paths
