use Rattle.std.proofs.Common.{length}
use Rattle.tup_table.proofs.Stores.{AreaTo}
use Rattle.tup_table.proofs.reading.read_area.Given as goal

abbrev pub invariant-commits : goal.invariant-commits
invariant-commits l = AreaTo l.area l.rest l.entries

abbrev pub decreases-commits : goal.decreases-commits
decreases-commits l = length l.rest
