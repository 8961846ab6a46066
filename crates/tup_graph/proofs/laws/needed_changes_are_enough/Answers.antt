use Rattle.tup_graph.proofs.Needed.{needed_read}
use Rattle.tup_graph.proofs.laws.needed_changes_are_enough.Goals as goal

pub returns : goal.returns
returns c = needed_read
