use Rattle.tup_schedule.specs.Course.{EndsWithFinish}
use Rattle.tup_board.proofs.Kept.{to_course, course_is}
use Rattle.std.proofs.Common.{subst}
use Rattle.tup_schedule.specs.Course.{CourseState, IsLastVerdict}
use Rattle.tup_board.proofs.board.Board.last_verdict.Goals as goal

pub last_verdict-requires : goal.last_verdict-requires
last_verdict-requires g c = to_course g.S.Site g.R.Runner _ _ _ _ _ _ _ c.self.invariant.0 c.self.invariant.1 c.self.view_is EndsWithFinish c.requires

pub returns : goal.returns
returns g c = subst (λ (it : CourseState). IsLastVerdict it c.last_verdict.result.now) (course_is g.S.Site g.R.Runner _ _ _ _ _ _ _ c.self.invariant.0 c.self.invariant.1 c.self.view_is) c.last_verdict.ensures
