use Rattle.tup_graph.specs.Kept.{AgreesWithSeen}
use Rattle.tup_graph.specs.Scan.{IsScanned}
use Rattle.tup_graph.specs.Swap.{IsSwapped}
use Rattle.tup_law_graph.specs.Fitting.{FitsTogether}
use Rattle.tup_law_graph.proofs.Scanning.{scan_agrees}
use Rattle.tup_law_graph.proofs.Swapping.{swap_fits}
use Rattle.tup_law_site.proofs.Laws.{noted_weaker}
use Rattle.tup_law_site.proofs.notes.notes_leave_fitting.Goals as goal

pub returns-clause-scan : goal.returns-clause-scan
returns-clause-scan g c = λ known graph new files config knows leaves.
    noted_weaker _ _ _ new graph (IsScanned graph files config) (AgreesWithSeen known) (λ h is. scan_agrees known graph h files config is knows) leaves

pub returns-clause-swap : goal.returns-clause-swap
returns-clause-swap g c = λ language known graph new fresh gone rules fits leaves.
    noted_weaker _ _ _ new graph (IsSwapped graph fresh gone rules) (FitsTogether language known) (λ h is. swap_fits language known graph h fresh gone rules fits is) leaves
