use Rattle.std.proofs.lemmas.Bool.{false≢true}
use Rattle.tup_board.specs.Board.{course_of}
use Rattle.tup_board_rows.proofs.Going.{ends_last}
use Rattle.tup_board_rows.proofs.desk.Desk.end_denied.Goals as goal

pub finish_denied-requires-clause-denied : goal.finish_denied-requires-clause-denied
finish_denied-requires-clause-denied c = record { was = c.was_denied.ensures c.if-not-was_denied.false; means = λ tells. absurd (false≢true tells) }

pub last_verdict-requires : goal.last_verdict-requires
last_verdict-requires c = ends_last c.args.seat (course_of c.args.self.now.board) (course_of c.finish_denied.new.self) c.finish_denied.ensures.ends
