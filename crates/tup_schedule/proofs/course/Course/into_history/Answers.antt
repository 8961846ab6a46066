use Rattle.std.proofs.Common.{ap, ◌∙◌, sym, subst, List}
use Rattle.tup_core.specs.declared.event.CoreEvent.{CoreEvent}
use Rattle.tup_core.specs.Run.{IsRun}
use Rattle.tup_schedule.specs.Course.{CourseState, first}
use Rattle.tup_schedule.proofs.course.Course.into_history.Goals as goal

pub returns-clause-events : goal.returns-clause-events
returns-clause-events c = c.from_vec.ensures ∙ ap (λ (it : CourseState). it.history) c.self.view_is

pub returns-clause-run : goal.returns-clause-run
returns-clause-run c = subst (λ (l : List CoreEvent). IsRun c.args.self.plan (first c.args.self) l) (sym (c.from_vec.ensures ∙ ap (λ (it : CourseState). it.history) c.self.view_is))
    (subst (λ (it : CourseState). IsRun it.plan (first it) it.history) c.self.view_is c.self.invariant.run)
