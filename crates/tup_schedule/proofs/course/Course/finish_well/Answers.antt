use Rattle.std.proofs.Common.{arith}
use Rattle.tup_core.specs.Step.{IsEnabled}
use Rattle.tup_schedule.proofs.Kept.{good_enabled, good_takes, good_fits, good_within, good_kept}
use Rattle.tup_schedule.proofs.Views.{from_now, core_here, turn_here, seen_more}
use Rattle.tup_schedule.proofs.course.Course.finish_well.Goals as goal

pub take-requires-clause-core : goal.take-requires-clause-core
take-requires-clause-core c = core_here _ _ _ _ _ _ c.self.invariant c.self.view_is c.args.plan.now c.requires.plan

pub take-requires-clause-enabled : goal.take-requires-clause-enabled
take-requires-clause-enabled c = from_now _ _ _ _ _ _ c.self.invariant c.self.view_is (λ s. IsEnabled c.args.plan.now s c.args.end) (good_enabled _ _ _ _ _ _ c.self.invariant c.self.view_is c.args.plan.now c.requires.plan c.args.rule c.args.end c.requires.end)

pub take-requires-clause-memory : goal.take-requires-clause-memory
take-requires-clause-memory c = good_takes _ _ _ _ _ _ c.self.invariant c.self.view_is c.args.plan.now c.requires.plan c.args.rule c.args.end c.requires.end

pub take-requires-clause-room : goal.take-requires-clause-room
take-requires-clause-room c =
    let fits = good_fits _ _ _ _ _ _ c.self.invariant c.self.view_is c.args.plan.now c.requires.plan c.args.rule c.args.end c.requires.end in
    omega (arith, fits, c.self.inside.history.ok.0)

pub free-requires-clause-rule : goal.free-requires-clause-rule
free-requires-clause-rule c = good_within _ _ _ _ _ _ c.self.invariant c.self.view_is c.args.plan.now c.requires.plan c.args.rule c.args.end c.requires.end

pub free-requires-clause-before : goal.free-requires-clause-before
free-requires-clause-before c = (_, turn_here _ _ _ _ _ _ c.self.invariant c.self.view_is c.args.plan.now c.requires.plan)

pub invariant_of-self : goal.invariant_of-self
invariant_of-self c =
    good_kept _ _ _ _ _ _ c.self.invariant c.self.view_is c.args.plan.now c.requires.plan c.args.rule c.args.end c.requires.end c.take.new.core c.take.new.history.items _ _ c.take.ensures.core c.take.ensures.first c.take.ensures.state c.take.ensures.history
    c.free.ensures c.take.ensures.capacity

pub returns : goal.returns
returns c = seen_more _ _ c.args.end _ c.self.view_is c.take.ensures.history
