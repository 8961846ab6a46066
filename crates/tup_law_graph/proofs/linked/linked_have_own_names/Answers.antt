use Rattle.tup_law_graph.proofs.Named.{linked_names}
use Rattle.tup_law_graph.proofs.linked.linked_have_own_names.Goals as goal

pub returns : goal.returns
returns c = λ readings rules linked. linked_names readings rules linked
