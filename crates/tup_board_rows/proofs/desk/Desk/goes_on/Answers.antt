use Rattle.std.proofs.Common.{not, sym, ap, ◌∙◌}
use Rattle.std.specs.Option.{option_copied}
use Rattle.tup_board.specs.Board.{course_of}
use Rattle.tup_board_rows.proofs.Going as going
use Rattle.tup_board_rows.proofs.desk.Desk.goes_on.Goals as goal

pub returns-then-may_run : goal.returns-then-may_run
returns-then-may_run c = λ is.
    let desk = c.args.self.now in
    going.goes_on (course_of desk.board) desk.plan c.args.seat c.in-Some.running.now desk.planned (sym c.running.ensures ∙ ap option_copied c.in-Some.is)
    (c.may_run.ensures c.if-may_run.true) (c.is_none.ensures ∙ ap not is)
