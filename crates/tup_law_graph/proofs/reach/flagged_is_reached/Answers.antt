use Rattle.tup_law_graph.proofs.Reaching.{flags_are_reach}
use Rattle.tup_law_graph.proofs.reach.flagged_is_reached.Goals as goal

pub returns : goal.returns
returns c = λ next language known g scanned swapped files config fresh gone rules tree sources number links kept scan as_seen sees come swap.
    flags_are_reach next language known g scanned swapped files config fresh gone rules tree sources number links kept scan as_seen sees come swap
