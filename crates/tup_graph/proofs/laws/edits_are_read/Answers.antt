use Rattle.tup_graph.proofs.Leading.{edits_read}
use Rattle.tup_graph.proofs.laws.edits_are_read.Goals as goal

pub returns : goal.returns
returns c = λ entries g edits origin up is taken. edits_read entries g edits origin up is taken
