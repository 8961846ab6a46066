use Rattle.tup_graph.proofs.Turns.{turns_read}
use Rattle.tup_graph.proofs.laws.edits_in_turn_are_read.Goals as goal

pub returns : goal.returns
returns c = λ entries g edits origin up is taken. turns_read origin edits entries g up is taken
