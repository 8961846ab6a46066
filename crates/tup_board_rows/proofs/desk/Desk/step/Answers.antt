use Rattle.std.proofs.Common.{◌≡◌, sym, subst}
use Rattle.tup_runner.specs.Report.{asks_of}
use Rattle.tup_board.specs.Board.{BoardState, course_of}
use Rattle.tup_board.specs.Calls.{AreStamped}
use Rattle.tup_schedule.specs.Course.{RunsRule}
use Rattle.tup_board_rows.specs.declared.quiet.Quiet.{Quiet}
use Rattle.tup_board_rows.proofs.desk.Desk.step.Goals as goal

pub finish-done-requires-clause-dir : goal.finish-done-requires-clause-dir
finish-done-requires-clause-dir c =
    subst (λ (board : BoardState Quiet). (it : RunsRule (course_of board) c.args.seat) → c.in-Ok.report.dir ≡ it.rule.dir) (sym c.in-Ok.ensures.board) c.in-Ok.ensures.dir

pub finish-done-requires-clause-text : goal.finish-done-requires-clause-text
finish-done-requires-clause-text c =
    subst (λ (board : BoardState Quiet). (it : RunsRule (course_of board) c.args.seat) → c.in-Ok.report.text ≡ it.rule.text) (sym c.in-Ok.ensures.board) c.in-Ok.ensures.text

pub finish-done-requires-clause-asks : goal.finish-done-requires-clause-asks
finish-done-requires-clause-asks c =
    subst (λ (board : BoardState Quiet). (it : RunsRule (course_of board) c.args.seat) → AreStamped it.running.asks (asks_of c.in-Ok.report)) (sym c.in-Ok.ensures.board) c.in-Ok.ensures.asks
