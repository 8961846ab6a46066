use Rattle.std.proofs.Common.{◌≡◌}
use Rattle.tup_graph.specs.Edits.{edited_by}
use Rattle.tup_graph.proofs.nodes.Nodes.edit_all.Given as goal

abbrev pub invariant-loop-edit : goal.invariant-loop-edit
invariant-loop-edit l = l.self ≡ edited_by l.fn.self l.yielded
