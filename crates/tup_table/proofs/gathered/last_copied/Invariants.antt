use Rattle.std.proofs.Common.{◌≤◌, ◌-◌, ◌++◌, drop, length}
use Rattle.tup_table.specs.Slots.{LeaveAlike}
use Rattle.tup_table.proofs.gathered.last_copied.Given as goal

abbrev pub invariant-left : goal.invariant-left
invariant-left l = record {
  inside : l.at ≤ length l.slots;
  alike : LeaveAlike (l.kept.items ++ drop l.at l.slots) l.slots;
}

abbrev pub decreases-left : goal.decreases-left
decreases-left l = length l.slots - l.at
