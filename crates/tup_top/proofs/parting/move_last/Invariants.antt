use Rattle.std.proofs.Common.{◌≡◌, ◌+◌, ◌-◌, ◌++◌, ◌≤◌, drop, length, reverse, take}
use Rattle.std.specs.Vec.{vec_capacity}
use Rattle.tup_top.proofs.parting.move_last.Given as goal

abbrev pub invariant-loop-from : goal.invariant-loop-from
invariant-loop-from g l = record {
  kept : take l.keep l.from.items ≡ take l.keep l.fn.from.items;
  long : l.keep ≤ length l.from.items;
  moved : l.to.items ++ reverse (drop l.keep l.from.items) ≡ l.fn.to.items ++ reverse (drop l.keep l.fn.from.items);
  room : length l.to.items + (length l.from.items - l.keep) ≤ vec_capacity l.to;
  same : vec_capacity l.to ≡ vec_capacity l.fn.to;
}

abbrev pub decreases-loop-from : goal.decreases-loop-from
decreases-loop-from g l = length l.from.items
