-- What may happen at a seat, from what is known of it.
use Rattle.std.proofs.Common.{◌≡◌, ℕ, ◌+◌, ◌-◌, ◌<◌, true, false, List, [], ◌∷◌, ◌++◌, length, Option, None, Some, refl, sym, ap, ◌∙◌, subst, arith, length-append}
use Rattle.std.specs.Prelude.{slice_get, is_some}
use Rattle.std.proofs.lemmas.Bool.{true≢false}
use Rattle.std.proofs.lemmas.Option.{slice_get-get_or}
use Rattle.std.proofs.Math.Seq.{get_or-append_seam}
use Rattle.tup_rule.specs.declared.rule.Rule.{Rule}
use Rattle.tup_access.specs.declared.verdict.Verdict.{Verdict}
use Rattle.tup_core.specs.declared.plan.Plan.{Plan}
use Rattle.tup_core.specs.declared.event.CoreEvent.{CoreEvent}
use Rattle.tup_core.specs.declared.event.CoreEvent.TheVariants.{Finish}
use Rattle.tup_core.specs.declared.running.Running.{Running}
use Rattle.tup_schedule.specs.Course.{CourseState, EndsDenied, EndsWithFinish, GoesOn, RunsRule, WasDenied, last_event, now}
use Rattle.tup_board_rows.specs.Desk.{MayRun}

-- what runs at a seat is what stands there
pub running_is : (course : CourseState) (seat : ℕ) (running : Running) → (now course).seats seat ≡ Some running → (it : RunsRule course seat) → it.running ≡ running
running_is course seat running here it = same_of it.running running (sym it.runs.here ∙ here)
  where
    same_of : (one other : Running) → Some one ≡ Some other → one ≡ other
    same_of one other is = cc

-- an end of a command that was denied an ask is the last that happened
pub ends_last : (seat : ℕ) (old new : CourseState) → EndsDenied seat old new → EndsWithFinish new
ends_last seat old new ends = (seat, ends.was.verdict, [], ap last_event ends.adds ∙ last old.history (Finish seat ends.was.verdict []))
  where
    last : (before : List CoreEvent) (event : CoreEvent) → slice_get (before ++ event ∷ []) (length (before ++ event ∷ []) - 1) ≡ Some event
    last before event =
        let grown : length (before ++ event ∷ []) ≡ length before + 1 = length-append before (event ∷ []) in
        let at : length (before ++ event ∷ []) - 1 ≡ length before = omega (arith, grown) in
        let within : length before < length (before ++ event ∷ []) = omega (arith, grown) in
        ap (slice_get (before ++ event ∷ [])) at ∙ slice_get-get_or (before ++ event ∷ []) (length before) event within ∙ ap Some (get_or-append_seam before event [] event)

module _ (course : CourseState) (plan : Plan) (seat : ℕ) (running : Running) (planned : plan ≡ course.plan) (here : (now course).seats seat ≡ Some running) where
  runs_rule : MayRun plan seat running → RunsRule course seat
  runs_rule may = record {
    running = running;
    rule = may.rule;
    runs = record { within = may.within; here = here; placed = subst (λ (p : Plan). slice_get p.rules running.rule ≡ Some may.rule) planned may.placed };
  }

  pub goes_on : MayRun plan seat running → is_some running.denied ≡ false → GoesOn course seat
  unfolding runs_rule
  goes_on may none = record { it = runs_rule may; granted = none_is running.denied none }
    where
      none_is : (denied : Option (List ℕ × Verdict)) → is_some denied ≡ false → denied ≡ None
      none_is None up = refl
      none_is (Some one) up = absurd (true≢false up)

  pub was_denied : MayRun plan seat running → is_some running.denied ≡ true → WasDenied course seat
  unfolding runs_rule
  was_denied may some = at running.denied refl
    where
      at : (denied : Option (List ℕ × Verdict)) → running.denied ≡ denied → WasDenied course seat
      at None is = absurd (true≢false (sym some ∙ ap is_some is))
      at (Some denied) is = record { it = runs_rule may; text = denied.0; verdict = denied.1; denied = is }

  pub rule_is : (rule : Rule) → slice_get plan.rules running.rule ≡ Some rule → (it : RunsRule course seat) → rule ≡ it.rule
  rule_is rule found it =
      let same : it.running ≡ running = running_is course seat running here it in
      same_rule rule it.rule (sym found ∙ ap (λ (p : Plan). slice_get p.rules running.rule) planned ∙ ap (λ (r : Running). slice_get course.plan.rules r.rule) (sym same) ∙ it.runs.placed)
    where
      same_rule : (one other : Rule) → Some one ≡ Some other → one ≡ other
      same_rule one other is = cc
