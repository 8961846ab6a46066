use Rattle.tup_table.proofs.Compact.{compacted_values, length-compact}
use Rattle.tup_table.proofs.laws.compacting_keeps.Goals as goal

pub returns-clause-values : goal.returns-clause-values
returns-clause-values c = compacted_values

pub returns-clause-live : goal.returns-clause-live
returns-clause-live c = length-compact
