use Rattle.tup_graph.proofs.Bare.{level_of}
use Rattle.tup_rule_diff.proofs.Swapping.{swap_noted}
use Rattle.tup_rule_diff.proofs.laws.swap_edits_leave.Goals as goal

pub returns : goal.returns
returns c = λ entries g fresh gone rules edits is are once. swap_noted g fresh gone rules edits are (level_of entries g is) once
