use Rattle.std.proofs.Common.{◌≡◌, ◌≤◌, ◌+◌, ◌++◌, length}
use Rattle.std.specs.Prelude.{map}
use Rattle.std.specs.Vec.{vec_capacity}
use Rattle.tup_parallel.specs.Hands.{runner_of, seat_of}
use Rattle.tup_parallel.proofs.hands.hands_of.Given as goal

abbrev pub invariant-loop-seats : goal.invariant-loop-seats
invariant-loop-seats g l = record {
  seats : map seat_of l.hands.items ++ l.seats.items ≡ l.fn.seats.items;
  runners : map runner_of l.hands.items ++ l.runners.items ≡ l.fn.runners.items;
  many : length l.runners.items ≡ length l.seats.items;
  room : length l.hands.items + length l.seats.items ≤ vec_capacity l.hands;
}

abbrev pub decreases-loop-seats : goal.decreases-loop-seats
decreases-loop-seats g l = length l.seats.items
