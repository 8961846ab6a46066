use Rattle.tup_law_graph.proofs.Swapping.{unread_fits}
use Rattle.tup_law_graph.proofs.transactions.kept_fits.Goals as goal

pub returns : goal.returns
returns c = λ next language known g kept none. unread_fits next language known g kept none
