use Rattle.tup_law_graph.proofs.Scanning.{scan_keeps}
use Rattle.tup_law_graph.proofs.transactions.scan_keeps.Goals as goal

pub returns : goal.returns
returns c = λ next language known g new files config kept knows is. scan_keeps next language known g new files config kept knows is
