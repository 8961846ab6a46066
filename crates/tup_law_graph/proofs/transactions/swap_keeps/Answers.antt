use Rattle.tup_law_graph.proofs.Swapping.{swap_keeps}
use Rattle.tup_law_graph.proofs.transactions.swap_keeps.Goals as goal

pub returns : goal.returns
returns c = λ next language known g new fresh gone rules kept fits is. swap_keeps language known g new fresh gone rules fits is next kept
