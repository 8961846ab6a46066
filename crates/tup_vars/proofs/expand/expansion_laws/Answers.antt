use Rattle.tup_vars.proofs.Laws.{each-segments, spelled-segments, expansion-plain, expansion-joins}
use Rattle.tup_vars.proofs.expand.expansion_laws.Goals as goal

pub returns-clause-each : goal.returns-clause-each
returns-clause-each c = each-segments

pub returns-clause-whole : goal.returns-clause-whole
returns-clause-whole c = spelled-segments

pub returns-clause-plain : goal.returns-clause-plain
returns-clause-plain c = expansion-plain

pub returns-clause-joins : goal.returns-clause-joins
returns-clause-joins c = expansion-joins
