use Rattle.tup_law_graph.proofs.Reaching.{scan_flags_are_reach}
use Rattle.tup_law_graph.proofs.reach.scanned_is_reached.Goals as goal

pub returns : goal.returns
returns c = λ next language known g scanned files config tree number links kept flags runs scan as_seen.
    scan_flags_are_reach next language known g scanned files config tree number links kept flags runs scan as_seen
