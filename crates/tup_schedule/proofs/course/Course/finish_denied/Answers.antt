use Rattle.std.proofs.Common.{◌≡◌, ℕ, List, [], ◌∷◌, ◌++◌, length, take, drop, Option, None, Some, sym, ap, ◌∙◌, subst, arith}
use Rattle.std.specs.Prelude.{slice_set, vec_capacity}
use Rattle.std.specs.FinMap as finite
use Rattle.std.proofs.lemmas.List.{append-nil, drop_all, take_all, length-set}
use Rattle.std.proofs.lemmas.Option.{same_Some}
use Rattle.tup_core.specs.declared.event.CoreEvent.{CoreEvent}
use Rattle.tup_core.specs.declared.event.CoreEvent.TheVariants.{Finish}
use Rattle.tup_core.specs.Machine.{entry, state_of, TakesMemory}
use Rattle.tup_core.specs.Step.{IsEnabled, after}
use Rattle.tup_schedule.specs.Course.{IsCourse, now}
use Rattle.tup_schedule.proofs.Kept.{denied_ready, denied_enabled, denied_takes, denied_fits, denied_kept}
use Rattle.tup_schedule.proofs.Views.{from_now, core_here, seen_more}
use Rattle.tup_schedule.proofs.course.Course.finish_denied.Goals as goal

pub taken_end-requires : goal.taken_end-requires
taken_end-requires c = let many = c.self.invariant.many in let within = c.requires.seat.it.runs.within in omega (arith, many, within)

pub take-requires-clause-core : goal.take-requires-clause-core
take-requires-clause-core c = core_here _ _ _ _ _ _ c.self.invariant c.self.view_is c.args.plan.now c.requires.plan

pub take-requires-clause-enabled : goal.take-requires-clause-enabled
take-requires-clause-enabled c =
    let was = c.requires.seat in
    let end_is : c.in-Some.end ≡ Finish c.args.seat was.verdict [] = same_Some _ _ (sym c.in-Some.is ∙ c.taken_end.ensures.end ∙ ap (λ (l : List (Option CoreEvent)). entry l c.args.seat) c.deref_mut.ensures.value ∙ denied_ready _ _ _ _ _ _ c.self.invariant c.self.view_is c.args.plan.now c.requires.plan c.args.seat was) in
    from_now _ _ _ _ _ _ c.self.invariant c.self.view_is (λ s. IsEnabled c.args.plan.now s c.in-Some.end) (subst (λ (e : CoreEvent). IsEnabled c.args.plan.now (now c.args.self.now) e) (sym end_is) (denied_enabled _ _ _ _ _ _ c.self.invariant c.self.view_is c.args.plan.now c.requires.plan c.args.seat was))

pub take-requires-clause-memory : goal.take-requires-clause-memory
take-requires-clause-memory c =
    let was = c.requires.seat in
    let end_is : c.in-Some.end ≡ Finish c.args.seat was.verdict [] = same_Some _ _ (sym c.in-Some.is ∙ c.taken_end.ensures.end ∙ ap (λ (l : List (Option CoreEvent)). entry l c.args.seat) c.deref_mut.ensures.value ∙ denied_ready _ _ _ _ _ _ c.self.invariant c.self.view_is c.args.plan.now c.requires.plan c.args.seat was) in
    subst (λ (e : CoreEvent). TakesMemory (state_of c.self.inside.core) e → ⊥) (sym end_is) (denied_takes _ _ _ _ _ _ c.self.invariant c.self.view_is c.args.plan.now c.requires.plan c.args.seat was)

pub take-requires-clause-room : goal.take-requires-clause-room
take-requires-clause-room c =
    let fits = denied_fits _ _ _ _ _ _ c.self.invariant c.self.view_is c.args.plan.now c.requires.plan c.args.seat c.requires.seat in
    omega (arith, fits, c.self.inside.history.ok.0)

no_end : (event : CoreEvent) → (let none : Option CoreEvent = None in none) ≡ Some event → ⊥
no_end event is = cc

-- what was written through a slice of a whole list
all_written : (count : ℕ) (items now : List (Option CoreEvent)) → count ≡ length items → length now ≡ length items → take count (now ++ drop (length now) items) ≡ now
all_written count items now whole same =
    ap (λ (rest : List (Option CoreEvent)). take count (now ++ rest)) (drop_all (length now) items (omega (arith, same)))
    ∙ ap (take count) (append-nil now) ∙ take_all count now (omega (arith, whole, same))

pub unreachable-requires : goal.unreachable-requires
unreachable-requires c =
    no_end _ (sym c.in-None.is ∙ c.taken_end.ensures.end ∙ ap (λ (l : List (Option CoreEvent)). entry l c.args.seat) c.deref_mut.ensures.value ∙ denied_ready _ _ _ _ _ _ c.self.invariant c.self.view_is c.args.plan.now c.requires.plan c.args.seat c.requires.seat)

pub invariant_of-self : goal.invariant_of-self
invariant_of-self c =
    let was = c.requires.seat in
    let end_is : c.in-Some.end ≡ Finish c.args.seat was.verdict [] = same_Some _ _ (sym c.in-Some.is ∙ c.taken_end.ensures.end ∙ ap (λ (l : List (Option CoreEvent)). entry l c.args.seat) c.deref_mut.ensures.value ∙ denied_ready _ _ _ _ _ _ c.self.invariant c.self.view_is c.args.plan.now c.requires.plan c.args.seat was) in
    let left : c.taken_end.new.ends ≡ slice_set c.self.inside.ends.items c.args.seat None = c.taken_end.ensures.left ∙ ap (λ (l : List (Option CoreEvent)). slice_set l c.args.seat None) c.deref_mut.ensures.value in
    let written = all_written c.self.inside.ends.len c.self.inside.ends.items c.taken_end.new.ends (omega (arith, c.self.inside.ends.ok.0)) (ap length left ∙ length-set c.self.inside.ends.items c.args.seat None) in
    subst (λ (l : List (Option CoreEvent)). IsCourse (record { plan = c.self.inside.plan.value; files = finite.entries c.self.inside.files.value; history = c.take.new.history.items }) c.take.new.core c.self.inside.turn l (vec_capacity c.take.new.history)) (sym (written ∙ left))
    (denied_kept _ _ _ _ _ _ c.self.invariant c.self.view_is c.args.plan.now c.requires.plan c.args.seat was c.take.new.core c.take.new.history.items _ c.take.ensures.core c.take.ensures.first
    (c.take.ensures.state ∙ ap (after c.args.plan.now (state_of c.self.inside.core)) end_is) (c.take.ensures.history ∙ ap (λ (e : CoreEvent). c.self.inside.history.items ++ e ∷ []) end_is) c.take.ensures.capacity)

pub returns : goal.returns
returns c =
    let was = c.requires.seat in
    let end_is : c.in-Some.end ≡ Finish c.args.seat was.verdict [] = same_Some _ _ (sym c.in-Some.is ∙ c.taken_end.ensures.end ∙ ap (λ (l : List (Option CoreEvent)). entry l c.args.seat) c.deref_mut.ensures.value ∙ denied_ready _ _ _ _ _ _ c.self.invariant c.self.view_is c.args.plan.now c.requires.plan c.args.seat was) in
    record { was = was; adds = seen_more _ _ (Finish c.args.seat was.verdict []) _ c.self.view_is (c.take.ensures.history ∙ ap (λ (e : CoreEvent). c.self.inside.history.items ++ e ∷ []) end_is) }
