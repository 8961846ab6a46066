use Rattle.std.proofs.Common.{◌≡◌, ◌≤◌, length}
use Rattle.tup.proofs.crew.starters.Given as goal

abbrev pub invariant-loop-seat : goal.invariant-loop-seat
invariant-loop-seat l = record {
  long : length l.runners.items ≡ l.seat;
  most : l.seat ≤ 16;
}
