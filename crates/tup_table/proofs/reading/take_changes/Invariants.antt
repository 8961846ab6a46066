use Rattle.std.proofs.Common.{length}
use Rattle.tup_table.proofs.Stores.{ReadTo}
use Rattle.tup_table.proofs.reading.take_changes.Given as goal

abbrev pub invariant-changes : goal.invariant-changes
invariant-changes l = ReadTo l.origin l.fn.entries l.payload l.reader l.entries

abbrev pub decreases-changes : goal.decreases-changes
decreases-changes l = length l.reader
