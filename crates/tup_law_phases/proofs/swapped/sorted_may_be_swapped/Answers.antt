use Rattle.tup_law_phases.proofs.Ordered.{sorted_may_be_swapped}
use Rattle.tup_law_phases.proofs.swapped.sorted_may_be_swapped.Goals as goal

pub returns : goal.returns
returns c = λ given rules up linked. sorted_may_be_swapped given rules up linked
