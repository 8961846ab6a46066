use Rattle.std.proofs.Common.{◌≡◌, length}
use Rattle.tup_graph.specs.Late.{AreApart, with_late}
use Rattle.tup_graph.proofs.nodes.Nodes.put_late.Given as goal

abbrev pub invariant-left : goal.invariant-left
invariant-left l = record {
  apart : AreApart l.left.items;
  same : with_late l.self l.left.items ≡ with_late l.fn.self l.fn.late;
}

abbrev pub decreases-left : goal.decreases-left
decreases-left l = length l.left.items
