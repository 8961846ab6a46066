use Rattle.std.proofs.Common.{◌≡◌, ◌+◌, ◌≤◌}
use Rattle.tup_table.specs.Compact.{size_of}
use Rattle.tup_table.specs.Slots.{standing}
use Rattle.tup_table.proofs.gathered.size_taken.Given as goal

abbrev pub invariant-loop-key : goal.invariant-loop-key
invariant-loop-key l = record {
  sum : l.size + size_of (standing l.key-iterator) ≡ size_of (standing l.slots.entries);
  small : l.size ≤ 4611686018427387904;
}
