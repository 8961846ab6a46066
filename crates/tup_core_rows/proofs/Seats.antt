-- What may happen at a seat, from what is known of it.
use Rattle.std.proofs.Common.{◌≡◌, ℕ, ◌+◌, ◌-◌, ◌<◌, true, false, List, [], ◌∷◌, ◌++◌, length, Option, None, Some, refl, sym, ap, ◌∙◌, subst, arith, length-append}
use Rattle.std.specs.Prelude.{slice_get}
use Rattle.std.specs.Option.{is_some}
use Rattle.std.proofs.lemmas.Bool.{true≢false}
use Rattle.std.proofs.lemmas.Option.{slice_get-get_or}
use Rattle.std.proofs.Math.Seq.{get_or-append_seam}
use Rattle.tup_path.specs.Name.{Names}
use Rattle.tup_stamp.specs.declared.Stamp.{Stamp}
use Rattle.tup_rule.specs.declared.rule.Rule.{Rule}
use Rattle.tup_access.specs.declared.verdict.Verdict.{Verdict}
use Rattle.tup_access.specs.declared.verdict.Verdict.TheVariants.{Good}
use Rattle.tup_core.specs.declared.event.CoreEvent.{CoreEvent}
use Rattle.tup_core.specs.declared.event.CoreEvent.TheVariants.{Finish}
use Rattle.tup_core.specs.declared.running.Running.{Running}
use Rattle.tup_core.specs.Step.{FitsEnd, IsEnabled}
use Rattle.tup_schedule.specs.Course.{CourseState, RunsRule, WasDenied, EndsDenied, EndsWithFinish, IsGoodEnd, last_event, now}
use Rattle.tup_core_rows.specs.Desk.{RunsPlanned, Goes, names_in}

runs_here : (course : CourseState) (seat : ℕ) (running : Running) → seat < 16 → RunsPlanned course seat running → RunsRule course seat
runs_here course seat running within runs = record { running = running; rule = runs.rule; runs = record { within = within; here = runs.here; placed = runs.placed } }

pub goes_here : (course : CourseState) (seat : ℕ) (running : Running) (number : ℕ) → seat < 16 → RunsPlanned course seat running → running.denied ≡ None → running.rule ≡ number → Goes course seat number
unfolding runs_here
goes_here course seat running number within runs granted is = record { it = record { it = runs_here course seat running within runs; granted = granted }; is_rule = is }

denied_here : (course : CourseState) (seat : ℕ) (running : Running) (denied : List ℕ × Verdict) → seat < 16 → RunsPlanned course seat running → running.denied ≡ Some denied → WasDenied course seat
unfolding runs_here
denied_here course seat running denied within runs is = record { it = runs_here course seat running within runs; text = denied.0; verdict = denied.1; denied = is }

-- no ask was denied, or one was, told by a test
pub none_here : {A : Type 0} (found : Option A) → is_some found ≡ false → found ≡ None
none_here None down = refl
none_here (Some one) down = absurd (true≢false down)

pub was_denied_here : (course : CourseState) (seat : ℕ) (running : Running) → seat < 16 → RunsPlanned course seat running → is_some running.denied ≡ true → WasDenied course seat
was_denied_here course seat running within runs up = go running.denied refl
  where
    go : (kept : Option (List ℕ × Verdict)) → running.denied ≡ kept → WasDenied course seat
    go None is = absurd (true≢false (sym up ∙ ap is_some is))
    go (Some denied) is = denied_here course seat running denied within runs is

-- what is added is the last
last_added : (before : List CoreEvent) (event : CoreEvent) → slice_get (before ++ event ∷ []) (length (before ++ event ∷ []) - 1) ≡ Some event
last_added before event =
    let grown : length (before ++ event ∷ []) ≡ length before + 1 = length-append before (event ∷ []) in
    let at : length (before ++ event ∷ []) - 1 ≡ length before = omega (arith, grown) in
    let within : length before < length (before ++ event ∷ []) = omega (arith, grown) in
    ap (slice_get (before ++ event ∷ [])) at ∙ slice_get-get_or (before ++ event ∷ []) (length before) event within ∙ ap Some (get_or-append_seam before event [] event)

pub ended_last : (seat : ℕ) (old new : CourseState) → EndsDenied seat old new → EndsWithFinish new
ended_last seat old new ends = (seat, ends.was.verdict, [], ap last_event ends.adds ∙ last_added old.history (Finish seat ends.was.verdict []))

-- the rule of a seat that goes on stands in the plan
pub rule_here : (course : CourseState) (seat number : ℕ) (goes : Goes course seat number) → slice_get course.plan.rules number ≡ Some goes.it.it.rule
rule_here course seat number goes = ap (slice_get course.plan.rules) (sym goes.is_rule) ∙ goes.it.it.runs.placed

-- a Good end that leaves all outputs
pub good_may : (course : CourseState) (seat number : ℕ) (rule : Rule) (files : List (Names × Stamp)) (event : CoreEvent) (goes : Goes course seat number) → slice_get course.plan.rules number ≡ Some rule
    → names_in files ≡ rule.outputs → event ≡ Finish seat Good files → IsGoodEnd course number event
good_may course seat number rule files event goes here names is = record {
  seat = seat;
  files = files;
  is = is;
  it = goes.it;
  rule = goes.is_rule;
  enabled = subst (IsEnabled course.plan (now course)) (sym is) (
    goes.it.it.running,
    goes.it.it.rule,
    goes.it.it.runs,
    subst (λ (d : Option (List ℕ × Verdict)). FitsEnd goes.it.it.rule d Good files) (sym goes.it.granted) (names ∙ ap (λ (r : Rule). r.outputs) same),
  );
}
  where
    same_rule : (one other : Rule) → slice_get course.plan.rules number ≡ Some one → slice_get course.plan.rules number ≡ Some other → one ≡ other
    same_rule one other this that = cc

    same : rule ≡ goes.it.it.rule
    same = same_rule rule goes.it.it.rule here (rule_here course seat number goes)
