use Rattle.tup_schedule.specs.Course.{Stops}
use Rattle.tup_board.proofs.Kept.{other_cause, plan_here, stop_kept, both_seen, rest_seen}
use Rattle.tup_board.proofs.Stamps.{has_on}
use Rattle.tup_board.proofs.board.Board.stop.Goals as goal

pub stop-requires-clause-plan : goal.stop-requires-clause-plan
stop-requires-clause-plan g c = plan_here g.S.Site g.R.Runner _ _ _ _ _ _ _ c.self.invariant.0 c.self.invariant.1 c.self.view_is c.args.plan.now c.requires.plan

pub stop-requires-clause-cause : goal.stop-requires-clause-cause
stop-requires-clause-cause g c = other_cause c.args.cause c.requires.cause

pub invariant_of-self : goal.invariant_of-self
invariant_of-self g c =
    let kept = stop_kept g.S.Site g.R.Runner _ _ _ _ _ _ _ c.self.invariant.0 c.self.invariant.1 c.self.view_is c.args.seat c.args.cause c.stop.new.self c.requires.seat c.requires.cause c.stop.ensures in
    (kept.files, kept.sound, c.self.invariant.2, has_on _ _ _ _ kept.stamps c.self.invariant.3)

pub returns-clause-stops : goal.returns-clause-stops
returns-clause-stops g c =
    both_seen g.S.Site g.R.Runner _ _ _ _ _ _ _ c.self.invariant.0 c.self.invariant.1 c.self.view_is (Stops c.args.seat c.args.cause) c.stop.new.self
    (stop_kept g.S.Site g.R.Runner _ _ _ _ _ _ _ c.self.invariant.0 c.self.invariant.1 c.self.view_is c.args.seat c.args.cause c.stop.new.self c.requires.seat c.requires.cause c.stop.ensures) c.stop.ensures

pub returns-clause-rest : goal.returns-clause-rest
returns-clause-rest g c =
    rest_seen g.S.Site g.R.Runner _ _ _ _ _ _ _ c.self.invariant.0 c.self.invariant.1 c.self.view_is c.stop.new.self
    (stop_kept g.S.Site g.R.Runner _ _ _ _ _ _ _ c.self.invariant.0 c.self.invariant.1 c.self.view_is c.args.seat c.args.cause c.stop.new.self c.requires.seat c.requires.cause c.stop.ensures)
