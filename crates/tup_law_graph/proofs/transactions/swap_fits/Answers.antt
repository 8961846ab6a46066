use Rattle.tup_law_graph.proofs.Swapping.{swap_fits}
use Rattle.tup_law_graph.proofs.transactions.swap_fits.Goals as goal

pub returns : goal.returns
returns c = λ language known g new fresh gone rules fits is. swap_fits language known g new fresh gone rules fits is
