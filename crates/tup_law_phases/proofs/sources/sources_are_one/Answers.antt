use Rattle.tup_law_phases.proofs.Seen.{is_beside, is_for_core}
use Rattle.tup_law_phases.proofs.sources.sources_are_one.Goals as goal

pub returns-clause-beside : goal.returns-clause-beside
returns-clause-beside c = λ world g path. is_beside world g path

pub returns-clause-core : goal.returns-clause-core
returns-clause-core c = λ g tree. is_for_core g tree
