use Rattle.std.proofs.Common.{◌≡◌, length}
use Rattle.std.specs.BTreeMap.{IsOrdered}
use Rattle.tup_path.specs.Order.{by_bytes}
use Rattle.tup_table.specs.Entries.{committed}
use Rattle.tup_table.specs.Slots.{standing, HaveRoom}
use Rattle.tup_table.proofs.slots.settle.Given as goal

abbrev pub invariant-changes : goal.invariant-changes
invariant-changes l = record {
  ordered : IsOrdered by_bytes l.slots;
  room : HaveRoom l.slots.entries l.changes.items;
  left : committed l.origin (standing l.slots.entries) l.changes.items ≡ committed l.origin (standing l.fn.slots.entries) l.fn.changes.items;
}

abbrev pub decreases-changes : goal.decreases-changes
decreases-changes l = length l.changes.items
