-- That a rule may be taken, and what the test of the definition says of it: they are the same in a build under way.
use Rattle.std.proofs.Common.{◌≡◌, ℕ, zero, suc, Bool, true, ◌&&◌, List, [], ◌∷◌, ◌++◌, length, Option, None, Some, refl, sym, ap, ◌∙◌, subst, inl, inr}
use Rattle.std.proofs.lemmas.Bool.{false≢true, and_from, and_parts, or_cases}
use Rattle.std.proofs.lemmas.Option.{same_Some, none-some}
use Rattle.std.proofs.lemmas.List.Folds.{list_any-append}
use Rattle.std.proofs.lemmas.Map.Keys.{any_passes_from_place}
use Rattle.std.specs.Option.{is_none}
use Rattle.std.specs.List.{slice_get, list_all, zip, position_or_len}
use Rattle.tup_path.specs.Name.{Names}
use Rattle.tup_path.specs.Order.{same_path}
use Rattle.tup_rule.specs.declared.rule.Rule.{Rule}
use Rattle.tup_rule.specs.Rule.{among, declares, maker}
use Rattle.tup_rule.specs.Producer.{MakesFor, ProducerOver}
use Rattle.tup_rule.proofs.Laws.{producer-more}
use Rattle.tup_access.specs.declared.verdict.Verdict.{Verdict}
use Rattle.tup_clean.specs.Clean.{Build, good_at, producers_good, first_ready}
use Rattle.tup_clean.specs.AnyOrder.{AreProducersGood, MayBeTaken}
use Rattle.tup_clean.proofs.Places.{position_found, position_any, zip_here, zip_first, zip_second}
use Rattle.tup_clean.proofs.Among.{all_among, same_path-equal}
use Rattle.tup_clean.proofs.Growing.{is_none_None}

-- behind each Good rule all declared producers are Good
pub record IsClosed (rules : List Rule) (verdicts : List (Option Verdict)) : Type 0 where
  pub behind : (at : ℕ) (rule : Rule) → slice_get rules at ≡ Some rule → good_at verdicts at ≡ true → AreProducersGood rules verdicts rule

-- what passes for all paths passes for one of them
pub one_of : (test : Names → Bool) (paths : List Names) → list_all test paths ≡ true → (path : Names) → among path paths ≡ true → test path ≡ true
one_of test [] all path found = absurd (false≢true found)
one_of test (first ∷ paths) all path found =
    let parts = and_parts (test first) (list_all test paths) all in
    elim (or_cases (same_path path first) (among path paths) found) [
      | inl same ↦ subst (λ (p : Names). test p ≡ true) (sym (same_path-equal path first same)) parts.0
      | inr rest ↦ one_of test paths parts.1 path rest
    ]

-- ---- from the test

maker_passes : (rules : List Rule) (verdicts : List (Option Verdict)) (steps : ℕ) (made : Option ℕ) (at : ℕ) → made ≡ Some at →
    elim made as (λ _. Bool) [
      | None ↦ true
      | Some other ↦ good_at verdicts other && elim (slice_get rules other) [ Some producer ↦ producers_good steps rules verdicts producer | None ↦ true ]
    ] ≡ true → good_at verdicts at ≡ true
maker_passes rules verdicts steps None at is good = absurd (none-some at is)
maker_passes rules verdicts steps (Some other) at is good = subst (λ (n : ℕ). good_at verdicts n ≡ true) (same_Some other at is) (and_parts (good_at verdicts other) _ good).0

maker_good : (rules : List Rule) (verdicts : List (Option Verdict)) (steps : ℕ) (rule : Rule) → producers_good (suc steps) rules verdicts rule ≡ true →
    (at : ℕ) → MakesFor rules rule at → good_at verdicts at ≡ true
maker_good rules verdicts steps rule good at (path, declared, made) =
    maker_passes rules verdicts steps (maker path rules) at made
    (one_of _ (rule.inputs ++ rule.order) good path (list_any-append (same_path path) rule.inputs rule.order ∙ declared))

all_behind : (rules : List Rule) (verdicts : List (Option Verdict)) → IsClosed rules verdicts → (steps : ℕ) (rule : Rule) → producers_good (suc steps) rules verdicts rule ≡ true →
    (at between : ℕ) → ProducerOver between rules rule at → good_at verdicts at ≡ true
all_behind rules verdicts closed steps rule good at zero makes = maker_good rules verdicts steps rule good at makes
all_behind rules verdicts closed steps rule good at (suc between) (next, other, makes, here, rest) =
    closed.behind next other here (maker_good rules verdicts steps rule good next makes) at (between, rest)

-- the first ready rule may be taken
pub first_may : (rules : List Rule) (build : Build) (at : ℕ) (rule : Rule) → IsClosed rules build.verdicts → first_ready rules build.verdicts ≡ Some at → slice_get rules at ≡ Some rule →
    MayBeTaken rules build at rule
first_may [] build at rule closed ready here = absurd (none-some rule here)
first_may (first ∷ rest) build at rule closed ready here =
    let rules = first ∷ rest in
    let found = position_found (λ (p : Rule × Option Verdict). is_none p.1 && producers_good (length rules) rules build.verdicts p.0) (zip rules build.verdicts) at ready in
    let tests = and_parts (is_none found.0.1) (producers_good (length rules) rules build.verdicts found.0.0) found.2 in
    let same_rule : found.0.0 ≡ rule = same_Some _ _ (sym (zip_first rules build.verdicts at found.0 found.1) ∙ here) in
    let good : producers_good (suc (length rest)) rules build.verdicts rule ≡ true = subst (λ (r : Rule). producers_good (length rules) rules build.verdicts r ≡ true) same_rule tests.1 in
    record {
      here = here;
      untaken = zip_second rules build.verdicts at found.0 found.1 ∙ ap Some (is_none_None found.0.1 tests.0);
      producers = λ other behind. all_behind rules build.verdicts closed (length rest) rule good other behind.0 behind.1;
    }

-- ---- to the test

pub good_over : (rules : List Rule) (verdicts : List (Option Verdict)) (steps : ℕ) (rule : Rule) → AreProducersGood rules verdicts rule → producers_good steps rules verdicts rule ≡ true
good_over rules verdicts zero rule good = refl
good_over rules verdicts (suc steps) rule good =
    all_among _ (rule.inputs ++ rule.order)
    (λ path found. by path (sym (list_any-append (same_path path) rule.inputs rule.order) ∙ found) (λ producer behind. good_over rules verdicts steps producer behind) (maker path rules) refl)
  where
    by : (path : Names) → declares rule path ≡ true → ((producer : Rule) → AreProducersGood rules verdicts producer → producers_good steps rules verdicts producer ≡ true) →
        (made : Option ℕ) → maker path rules ≡ made →
        elim made as (λ _. Bool) [
          | None ↦ true
          | Some at ↦ good_at verdicts at && elim (slice_get rules at) [ Some producer ↦ producers_good steps rules verdicts producer | None ↦ true ]
        ] ≡ true
    by path declared deeper None made = refl
    by path declared deeper (Some at) made =
        and_from _ _ (good at (zero, (path, declared, made)))
        (elim (slice_get rules at) as (λ o. slice_get rules at ≡ o → elim o as (λ _. Bool) [ Some producer ↦ producers_good steps rules verdicts producer | None ↦ true ] ≡ true) [
          | None ↦ λ none. refl
          | Some producer ↦ λ here. deeper producer (λ other behind. good other (producer-more rules rule producer at other (path, declared, made) here behind))
        ] refl)

-- where a rule may be taken, one is ready
pub may_first : (rules : List Rule) (build : Build) (at : ℕ) (rule : Rule) → MayBeTaken rules build at rule → first_ready rules build.verdicts ≡ None → ⊥
may_first rules build at rule may none =
    let test : Rule × Option Verdict → Bool = λ p. is_none p.1 && producers_good (length rules) rules build.verdicts p.0 in
    let here = zip_here rules build.verdicts at rule None may.here may.untaken in
    let any = any_passes_from_place test (zip rules build.verdicts) at (rule, None) here (good_over rules build.verdicts (length rules) rule may.producers) in
    none-some (position_or_len test (zip rules build.verdicts)) (sym none ∙ position_any test (zip rules build.verdicts) any)
