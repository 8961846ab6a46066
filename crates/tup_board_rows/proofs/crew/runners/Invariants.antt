use Rattle.std.proofs.Common.{◌≡◌, length}
use Rattle.tup_board_rows.proofs.crew.runners.Given as goal

abbrev pub invariant-loop : goal.invariant-loop
invariant-loop l = length l.crew.items ≡ l.counter
