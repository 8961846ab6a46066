use Rattle.std.proofs.Common.{◌≡◌, take}
use Rattle.std.specs.BTreeMap.{IsOrdered}
use Rattle.tup_path.specs.Order.{by_bytes}
use Rattle.tup_table.specs.Slots.{standing, HaveRoom}
use Rattle.tup_table.proofs.slots.make_room.Given as goal

abbrev pub invariant-loop-change : goal.invariant-loop-change
invariant-loop-change l = record {
  ordered : IsOrdered by_bytes l.slots;
  room : HaveRoom l.slots.entries (take l.change-index l.changes);
  same : standing l.slots.entries ≡ standing l.fn.slots.entries;
}
