use Rattle.std.proofs.Common.{take}
use Rattle.tup_board.specs.Calls.{AreStamped}
use Rattle.tup_board_rows.proofs.seat.stamped.Given as goal

abbrev pub invariant-loop-text : goal.invariant-loop-text
invariant-loop-text l = AreStamped l.stamped (take l.text-index l.asks)
