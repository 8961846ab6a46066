use Rattle.tup_core.specs.Step.{IsEnabled}
use Rattle.tup_schedule.proofs.Kept.{tried_kept, seen_tried, seen_refused}
use Rattle.tup_schedule.proofs.Views.{from_now, core_here}
use Rattle.tup_schedule.proofs.course.Course.try_take.Goals as goal

pub try_take-requires-clause-core : goal.try_take-requires-clause-core
try_take-requires-clause-core c = core_here _ _ _ _ _ _ c.self.invariant c.self.view_is c.args.plan.now c.requires.plan

pub try_take-requires-clause-enabled : goal.try_take-requires-clause-enabled
try_take-requires-clause-enabled c = from_now _ _ _ _ _ _ c.self.invariant c.self.view_is (λ s. IsEnabled c.args.plan.now s c.args.event) c.requires.enabled

pub invariant_of-self : goal.invariant_of-self
invariant_of-self c =
    tried_kept _ _ _ _ _ _ c.self.invariant c.self.view_is c.args.plan.now c.requires.plan c.args.event c.try_take.new.core c.try_take.new.history.items c.most_to_come.result _ c.try_take.result c.requires.enabled c.requires.beside c.try_take.ensures.core c.try_take.ensures.first
    c.try_take.ensures.state c.try_take.ensures.history c.most_to_come.ensures.many c.try_take.ensures.room c.try_take.ensures.unchanged c.try_take.ensures.as_before c.try_take.ensures.no_less

pub returns-clause-ok : goal.returns-clause-ok
returns-clause-ok c = seen_tried _ _ c.args.event c.try_take.new.history.items c.try_take.result c.self.view_is c.try_take.ensures.history

pub returns-clause-err : goal.returns-clause-err
returns-clause-err c = seen_refused _ _ c.try_take.new.history.items c.try_take.result c.self.view_is c.try_take.ensures.as_before
