-- A board may go to another thread where its site may.
use denote.RattleType.{RattleType}
use denote.Param.Send.{IsSend, sendable, view_send}
use denote.Param.SendFields.{declared_send}
use Rattle.std.proofs.Crossing.{crosses}
use Rattle.tup_site.specs.declared.site.Site as Site
use Rattle.tup_runner.specs.declared.runner.Runner as Runner
use Rattle.tup_rule_outputs.proofs.Sent.{ground_send}
use Rattle.tup_schedule.proofs.Sent.{course_send}
use Rattle.tup_board.proofs.contents.Contents.TheSendSync as contents
use Rattle.tup_board.specs.contracts.board.Board as Board
use Rattle.tup_board.specs.contracts.board.Board.TheInside as inside

pub board_send : (S R : RattleType) (g : Site.Ghosts S.Denot) (h : Runner.Ghosts R.Denot) → IsSend S → IsSend (Board.the_row S R g h)
board_send S R g h s =
    view_send _ _ _ _ _ (declared_send (inside.the_type S R g h)
    (ground_send S s, (course_send, (search (sendable, crosses, contents.the_send) depth 40, (search (sendable, crosses) depth 20, (search (sendable, crosses) depth 20, (search sendable, tt)))))))
