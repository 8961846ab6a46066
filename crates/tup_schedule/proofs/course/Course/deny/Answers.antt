use Rattle.std.proofs.Common.{[], ◌∷◌, ◌++◌, sym, ap, ◌∙◌, subst, arith}
use Rattle.tup_core.specs.declared.event.CoreEvent.{CoreEvent}
use Rattle.tup_core.specs.declared.event.CoreEvent.TheVariants.{Deny}
use Rattle.tup_core.specs.Step.{IsEnabled}
use Rattle.tup_schedule.specs.Course.{now}
use Rattle.tup_schedule.proofs.Kept.{deny_done, same_kept}
use Rattle.tup_schedule.proofs.Views.{from_now, core_here, seen_more}
use Rattle.tup_schedule.proofs.course.Course.deny.Goals as goal

pub try_take-requires-clause-core : goal.try_take-requires-clause-core
try_take-requires-clause-core c = core_here _ _ _ _ _ _ c.self.invariant c.self.view_is c.args.plan.now c.requires.plan

pub try_take-requires-clause-enabled : goal.try_take-requires-clause-enabled
try_take-requires-clause-enabled c = from_now _ _ _ _ _ _ c.self.invariant c.self.view_is (λ s. IsEnabled c.args.plan.now s c.in_ok-event.event) (subst (λ (e : CoreEvent). IsEnabled c.args.plan.now (now c.args.self.now) e) (sym c.in_ok-event.ensures) c.requires.enabled)

pub index_mut-requires : goal.index_mut-requires
index_mut-requires c = let many = c.self.invariant.many in let within = c.requires.enabled.2.within in omega (arith, many, within, c.self.inside.ends.ok.0)

pub invariant_of-self : goal.invariant_of-self
invariant_of-self c =
    same_kept _ _ _ _ _ _ c.self.invariant c.self.view_is c.args.plan.now c.requires.plan c.try_take.new.core c.try_take.new.history.items _ c.try_take.ensures.core c.try_take.ensures.first c.in_err-try_take.ensures.unchanged c.in_err-try_take.ensures.as_before
    c.try_take.ensures.no_less

pub invariant_of-self-2 : goal.invariant_of-self-2
invariant_of-self-2 c =
    deny_done _ _ _ _ _ _ c.self.invariant c.self.view_is c.args.plan.now c.requires.plan c.args.seat c.args.text.now c.args.verdict.now c.in_ok-event.event c.in_ok-end.end c.try_take.new.core c.try_take.new.history.items c.most_to_come.result _ c.in_ok-event.ensures c.in_ok-end.ensures
    c.requires.enabled c.try_take.ensures.core c.try_take.ensures.first c.in_ok-try_take.ensures.state c.in_ok-try_take.ensures.history c.most_to_come.ensures.many c.in_ok-try_take.ensures.room

pub returns-clause-ok : goal.returns-clause-ok
returns-clause-ok c = seen_more _ _ (Deny c.args.seat c.args.text.now c.args.verdict.now) _ c.self.view_is (c.in_ok-try_take.ensures.history ∙ ap (λ (e : CoreEvent). c.self.inside.history.items ++ e ∷ []) c.in_ok-event.ensures)
