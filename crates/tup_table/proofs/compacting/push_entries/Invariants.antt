use Rattle.std.proofs.Common.{◌≡◌, ◌++◌}
use Rattle.tup_table.specs.Compact.{EntriesFit, puts}
use Rattle.tup_table.specs.Slots.{standing}
use Rattle.tup_table.specs.Spelling.{payload}
use Rattle.tup_table.proofs.compacting.push_entries.Given as goal

abbrev pub invariant-loop-key : goal.invariant-loop-key
invariant-loop-key l = record {
  written : l.bytes.items ++ payload (puts (standing l.key-iterator)) ≡ l.fn.bytes.items ++ payload (puts l.entries);
  fit : EntriesFit (standing l.key-iterator);
}
