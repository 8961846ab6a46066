use Rattle.tup_core.specs.Step.{IsReady}
use Rattle.tup_schedule.proofs.Views.{to_now, core_here, turn_here, first_seen, none_seen}
use Rattle.tup_schedule.proofs.course.Course.claim.Goals as goal

pub first_ready-requires-clause-core : goal.first_ready-requires-clause-core
first_ready-requires-clause-core c = core_here _ _ _ _ _ _ c.self.invariant c.self.view_is c.args.plan.now c.requires.plan

pub first_ready-requires-clause-turn : goal.first_ready-requires-clause-turn
first_ready-requires-clause-turn c = turn_here _ _ _ _ _ _ c.self.invariant c.self.view_is c.args.plan.now c.requires.plan

pub give-requires-clause-enabled : goal.give-requires-clause-enabled
give-requires-clause-enabled c = (c.requires.seat, c.requires.free, to_now _ _ _ _ _ _ c.self.invariant c.self.view_is (λ s. IsReady c.args.plan.now s c.in-Some.rule) c.in-Some.ensures.ready)

pub returns-in-Some : goal.returns-in-Some
returns-in-Some c = (first_seen _ _ _ _ _ _ c.self.invariant c.self.view_is c.args.plan.now c.requires.plan c.in-Some.rule c.in-Some.ensures, c.give.ensures)

pub waits-requires : goal.waits-requires
waits-requires c = none_seen _ _ _ _ _ _ c.self.invariant c.self.view_is c.args.plan.now c.requires.plan c.in-None.ensures

pub returns-in-None : goal.returns-in-None
returns-in-None c = c.waits.ensures c.args.seat
