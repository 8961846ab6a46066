-- The rule that is ready has no verdict yet, and one that was given stays to the end.
use Rattle.std.proofs.Common.{◌≡◌, ℕ, zero, suc, ◌≤◌, ◌&&◌, List, length, Option, None, Some, refl, sym, ap, ◌∙◌}
use Rattle.std.proofs.lemmas.Bool.{and_parts}
use Rattle.std.proofs.lemmas.Option.{same_Some, none-some}
use Rattle.std.specs.Option.{is_none}
use Rattle.std.specs.List.{slice_get, zip}
use Rattle.tup_rule.specs.declared.rule.Rule.{Rule}
use Rattle.tup_runner.specs.Next.{Next}
use Rattle.tup_access.specs.declared.verdict.Verdict.{Verdict}
use Rattle.tup_clean.specs.Clean.{Build, producers_good, first_ready, given, builds_on}
use Rattle.tup_clean.proofs.Building.{step-some}
use Rattle.tup_clean.proofs.Growing.{is_none_None}
use Rattle.tup_clean.proofs.OneBuild.{missing, none_missing}
use Rattle.tup_clean.proofs.Places.{set_apart, position_found, zip_first, zip_second}

-- the first rule that is ready has no verdict
pub ready_untaken : (rules : List Rule) (verdicts : List (Option Verdict)) (at : ℕ) → first_ready rules verdicts ≡ Some at → slice_get verdicts at ≡ Some None
ready_untaken rules verdicts at ready =
    let found = position_found (λ (p : Rule × Option Verdict). is_none p.1 && producers_good (length rules) rules verdicts p.0) (zip rules verdicts) at ready in
    let tests = and_parts (is_none found.0.1) _ found.2 in
    zip_second rules verdicts at found.0 found.1 ∙ ap Some (is_none_None found.0.1 tests.0)

-- and stands among the rules
pub ready_stands : (rules : List Rule) (verdicts : List (Option Verdict)) (at : ℕ) → first_ready rules verdicts ≡ Some at → (rule : Rule) × (slice_get rules at ≡ Some rule)
ready_stands rules verdicts at ready =
    let found = position_found (λ (p : Rule × Option Verdict). is_none p.1 && producers_good (length rules) rules verdicts p.0) (zip rules verdicts) at ready in
    (found.0.0, zip_first rules verdicts at found.0 found.1)

-- where each rule has a verdict none is ready
pub none_is_ready : (rules : List Rule) (verdicts : List (Option Verdict)) → missing verdicts ≤ 0 → first_ready rules verdicts ≡ None
none_is_ready rules verdicts none = by (first_ready rules verdicts) refl
  where
    by : (o : Option ℕ) → first_ready rules verdicts ≡ o → first_ready rules verdicts ≡ None
    by None is = is
    by (Some at) is = absurd (none_missing verdicts at none (ready_untaken rules verdicts at is))

-- a verdict that was given stays
given_stays : (next : Next) (rules : List Rule) (build : Build) (at place : ℕ) (rule : Rule) (verdict : Verdict) → first_ready rules build.verdicts ≡ Some at →
    slice_get build.verdicts place ≡ Some (Some verdict) → slice_get (given next rules build at rule).verdicts place ≡ Some (Some verdict)
given_stays next rules build at place rule verdict ready has =
    set_apart build.verdicts at place _
    (λ same. none-some verdict (same_Some _ _ (sym (ready_untaken rules build.verdicts at ready) ∙ ap (slice_get build.verdicts) (sym same) ∙ has)))
    ∙ has

pub verdict_stays : (steps : ℕ) (next : Next) (rules : List Rule) (build : Build) (place : ℕ) (verdict : Verdict) →
    slice_get build.verdicts place ≡ Some (Some verdict) → slice_get (builds_on steps next rules build).verdicts place ≡ Some (Some verdict)
verdict_stays zero next rules build place verdict has = has
verdict_stays (suc steps) next rules build place verdict has =
    let Stays : Type 0 = slice_get (builds_on (suc steps) next rules build).verdicts place ≡ Some (Some verdict) in
    elim (first_ready rules build.verdicts) as (λ f. first_ready rules build.verdicts ≡ f → Stays) [
      | None ↦ λ none. rw (none, builds_on) has
      | Some at ↦ λ ready. elim (slice_get rules at) as (λ o. slice_get rules at ≡ o → Stays) [
        | None ↦ λ none. rw (ready, none, builds_on) has
        | Some rule ↦ λ here.
            ap (λ (b : Build). slice_get b.verdicts place) (step-some next rules steps build at rule ready here)
            ∙ verdict_stays steps next rules (given next rules build at rule) place verdict (given_stays next rules build at place rule verdict ready has)
      ] refl
    ] refl
