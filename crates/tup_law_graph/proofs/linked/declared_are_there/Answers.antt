use Rattle.tup_law_graph.proofs.Declared.{come_there}
use Rattle.tup_law_graph.proofs.linked.declared_are_there.Goals as goal

pub returns : goal.returns
returns c = λ sources rules come. come_there sources rules come
