use Rattle.std.proofs.Common.{◌≡◌, ◌≤◌, ◌+◌, ◌++◌, length}
use Rattle.std.specs.Prelude.{map}
use Rattle.std.specs.Vec.{vec_capacity}
use Rattle.tup_parallel.specs.Hands.{runner_of, seat_of}
use Rattle.tup_parallel.proofs.hands.parted.Given as goal

abbrev pub invariant-loop-hands : goal.invariant-loop-hands
invariant-loop-hands g l = record {
  seats : l.seats.items ++ map seat_of l.hands.items ≡ map seat_of l.fn.hands.items;
  runners : l.runners.items ++ map runner_of l.hands.items ≡ map runner_of l.fn.hands.items;
  room : length l.seats.items + length l.hands.items ≤ vec_capacity l.seats;
  places : length l.runners.items + length l.hands.items ≤ vec_capacity l.runners;
}

abbrev pub decreases-loop-hands : goal.decreases-loop-hands
decreases-loop-hands g l = length l.hands.items
