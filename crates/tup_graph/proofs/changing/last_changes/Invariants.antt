use Rattle.std.proofs.Common.{take}
use Rattle.tup_graph.proofs.Lasts.{AreLast}
use Rattle.tup_graph.proofs.changing.last_changes.Given as goal

abbrev pub invariant-loop-edit : goal.invariant-loop-edit
invariant-loop-edit l = AreLast (take l.edit-index l.edit-items) l.last.entries
