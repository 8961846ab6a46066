use Rattle.tup_law_phases.proofs.Seen.{core_knows, core_knows_tree}
use Rattle.tup_law_phases.proofs.sources.known_for_core.Goals as goal

pub returns-clause-contents : goal.returns-clause-contents
returns-clause-contents c = λ known is. core_knows known is

pub returns-clause-tree : goal.returns-clause-tree
returns-clause-tree c = λ known tree path content knows here. core_knows_tree known tree path content knows here
