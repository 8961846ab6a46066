use Rattle.tup_law_phases.proofs.Seen.{sees, is_tree, knows_sources}
use Rattle.tup_law_phases.proofs.sources.seen_are_sources.Goals as goal

pub returns-clause-sees : goal.returns-clause-sees
returns-clause-sees c = λ g tree seen. sees g tree seen

pub returns-clause-tree : goal.returns-clause-tree
returns-clause-tree c = λ g tree is. is_tree g tree is

pub returns-clause-known : goal.returns-clause-known
returns-clause-known c = λ known g tree knows. knows_sources g tree known knows
