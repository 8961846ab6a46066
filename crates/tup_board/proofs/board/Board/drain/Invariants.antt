use Rattle.std.specs.Prelude.{◌≡◌}
use Rattle.tup_board.specs.Calls.{IsOver}
use Rattle.tup_board.specs.Seat.{KeepsCount}
use Rattle.tup_board.proofs.Draining.{HasDrained, left_to_claim}
use Rattle.tup_board.proofs.board.Board.drain.Given as goal

abbrev pub invariant-rules : goal.invariant-rules
invariant-rules g l =
    HasDrained g.R.Runner.tells_ran l.fn.self l.self (g.R.Runner.ran l.fn.runner) (g.R.Runner.ran l.runner) (g.R.Runner.faults l.fn.runner) (g.R.Runner.faults l.runner)
    × KeepsCount g.S.Site l.fn.self l.self × (IsOver l.fn.self → (l.self ≡ l.fn.self) × (l.runner ≡ l.fn.runner))

abbrev pub decreases-rules : goal.decreases-rules
decreases-rules g l = left_to_claim l.self
