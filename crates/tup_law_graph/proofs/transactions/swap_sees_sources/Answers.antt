use Rattle.tup_law_graph.proofs.Swapping.{source_stays}
use Rattle.tup_law_graph.proofs.transactions.swap_sees_sources.Goals as goal

pub returns : goal.returns
returns c = λ language known g new fresh gone rules path fits is. source_stays language known g new fresh gone rules fits is path
