use Rattle.std.proofs.Common.{◌≡◌, ◌++◌, map, drop}
use Rattle.tup_record.specs.declared.owned.OwnedState.TheVariants.{Unsure}
use Rattle.tup_graph.specs.Transactions.{own}
use Rattle.tup_graph.proofs.nodes.Nodes.begin.Given as goal

abbrev pub invariant-loop-path : goal.invariant-loop-path
invariant-loop-path l = l.edits ++ map (own l.self l.rule Unsure) (drop l.path-index l.path-items) ≡ map (own l.self l.rule Unsure) l.path-items
