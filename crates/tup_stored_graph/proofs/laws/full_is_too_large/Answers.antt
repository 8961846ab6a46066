use Rattle.tup_stored_graph.proofs.Lengths as lengths
use Rattle.tup_stored_graph.proofs.laws.full_is_too_large.Goals as goal

pub returns : goal.returns
returns c = lengths.full_is_too_large
