use Rattle.tup_law_graph.proofs.Scanning.{scan_agrees}
use Rattle.tup_law_graph.proofs.transactions.scan_agrees.Goals as goal

pub returns : goal.returns
returns c = λ known g new files config knows is. scan_agrees known g new files config is knows
