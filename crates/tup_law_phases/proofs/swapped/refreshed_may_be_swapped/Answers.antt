use Rattle.tup_law_phases.proofs.Ordered.{may_be_swapped}
use Rattle.tup_law_phases.proofs.swapped.refreshed_may_be_swapped.Goals as goal

pub returns : goal.returns
returns c = λ g sources given rules refreshed linked. may_be_swapped g sources given rules refreshed linked
