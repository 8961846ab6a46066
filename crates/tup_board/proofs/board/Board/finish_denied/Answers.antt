use Rattle.tup_schedule.specs.Course.{EndsDenied, WasDenied}
use Rattle.tup_board.proofs.Kept.{plan_here, to_course, denied_kept, both_seen, rest_seen}
use Rattle.tup_board.proofs.Stamps.{has_on}
use Rattle.tup_board.proofs.board.Board.finish_denied.Goals as goal

pub finish_denied-requires-clause-plan : goal.finish_denied-requires-clause-plan
finish_denied-requires-clause-plan g c = plan_here g.S.Site g.R.Runner _ _ _ _ _ _ _ c.self.invariant.0 c.self.invariant.1 c.self.view_is c.args.plan.now c.requires.plan

pub finish_denied-requires-clause-seat : goal.finish_denied-requires-clause-seat
finish_denied-requires-clause-seat g c = to_course g.S.Site g.R.Runner _ _ _ _ _ _ _ c.self.invariant.0 c.self.invariant.1 c.self.view_is (λ it. WasDenied it c.args.seat) c.requires.denied.was

pub invariant_of-self : goal.invariant_of-self
invariant_of-self g c =
    let kept = denied_kept g.S.Site g.R.Runner _ _ _ _ _ _ _ c.self.invariant.0 c.self.invariant.1 c.self.view_is c.args.seat c.finish_denied.new.self c.requires.denied c.finish_denied.ensures in
    (kept.files, kept.sound, c.self.invariant.2, has_on _ _ _ _ kept.stamps c.self.invariant.3)

pub returns-clause-ends : goal.returns-clause-ends
returns-clause-ends g c =
    both_seen g.S.Site g.R.Runner _ _ _ _ _ _ _ c.self.invariant.0 c.self.invariant.1 c.self.view_is (EndsDenied c.args.seat) c.finish_denied.new.self
    (denied_kept g.S.Site g.R.Runner _ _ _ _ _ _ _ c.self.invariant.0 c.self.invariant.1 c.self.view_is c.args.seat c.finish_denied.new.self c.requires.denied c.finish_denied.ensures) c.finish_denied.ensures

pub returns-clause-rest : goal.returns-clause-rest
returns-clause-rest g c =
    rest_seen g.S.Site g.R.Runner _ _ _ _ _ _ _ c.self.invariant.0 c.self.invariant.1 c.self.view_is c.finish_denied.new.self
    (denied_kept g.S.Site g.R.Runner _ _ _ _ _ _ _ c.self.invariant.0 c.self.invariant.1 c.self.view_is c.args.seat c.finish_denied.new.self c.requires.denied c.finish_denied.ensures)
