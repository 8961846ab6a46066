use Rattle.std.proofs.Common.{arith}
use Rattle.tup_core.specs.declared.event.CoreEvent.TheVariants.{Stop}
use Rattle.tup_schedule.proofs.Kept.{stop_kept}
use Rattle.tup_schedule.proofs.Views.{core_here, stop_fits, seen_more}
use Rattle.tup_schedule.proofs.course.Course.end_by.Goals as goal

pub index_mut-requires : goal.index_mut-requires
index_mut-requires c = let many = c.self.invariant.many in omega (arith, many, c.requires.seat, c.self.inside.ends.ok.0)

pub take-requires-clause-core : goal.take-requires-clause-core
take-requires-clause-core c = core_here _ _ _ _ _ _ c.self.invariant c.self.view_is c.args.plan.now c.requires.plan

pub take-requires-clause-enabled : goal.take-requires-clause-enabled
take-requires-clause-enabled c = (c.requires.seat, c.requires.cause)

pub take-requires-clause-room : goal.take-requires-clause-room
take-requires-clause-room c =
    let fits = stop_fits _ _ _ _ _ _ c.self.invariant c.self.view_is c.args.seat c.args.cause c.requires.seat c.requires.one in
    omega (arith, fits, c.self.inside.history.ok.0)

pub invariant_of-self : goal.invariant_of-self
invariant_of-self c =
    stop_kept _ _ _ _ _ _ c.self.invariant c.self.view_is c.args.plan.now c.requires.plan c.args.seat c.args.cause c.take.new.core c.take.new.history.items _ c.requires.seat c.requires.cause c.take.ensures.core c.take.ensures.first c.take.ensures.state c.take.ensures.history
    c.requires.one c.take.ensures.capacity

pub returns : goal.returns
returns c = seen_more _ _ (Stop c.args.seat c.args.cause) _ c.self.view_is c.take.ensures.history
