use Rattle.std.proofs.Common.{sym, ◌∙◌, subst}
use Rattle.tup_runner.specs.Next.{Asks}
use Rattle.tup_board.specs.Calls.{AreStamped}
use Rattle.tup_board_rows.proofs.seat.seat_report.Goals as goal

pub returns-clause-asks : goal.returns-clause-asks
returns-clause-asks c = λ it.
    subst (λ (asks : Asks). AreStamped it.running.asks asks)
    (c.given.ensures ∙ c.reported.ensures.given ∙ sym c.in_ok-report.ensures.asks) (c.in_ok-over.ensures c.if-not-over.false it)
