use Rattle.std.proofs.Common.{sym, ap, subst}
use Rattle.tup_core.specs.declared.plan.Plan.{Plan}
use Rattle.tup_schedule.specs.Course.{CourseState}
use Rattle.tup_board.specs.Calls.{opened_as}
use Rattle.tup_board.specs.Sound.{IsOpening}
use Rattle.tup_board.proofs.board.Board.new.Goals as goal

pub opened-requires-clause-range : goal.opened-requires-clause-range
opened-requires-clause-range g c = c.requires.plan.in_range

pub opened-requires-clause-near : goal.opened-requires-clause-near
opened-requires-clause-near g c = c.requires.plan.near

pub of-requires-clause-opening : goal.of-requires-clause-opening
of-requires-clause-opening g c =
    subst (λ (p : Plan). IsOpening g.S.Site (opened_as p c.args.graph c.args.site)) (sym (ap (λ (it : CourseState). it.plan) c.in-Ok.ensures)) c.requires
