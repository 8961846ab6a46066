-- The test that counts its steps looks at all declared producers: as many steps as there are rules are enough.
use Rattle.std.proofs.Common.{◌≡◌, ℕ, zero, suc, ◌<◌, Bool, true, false, ◌&&◌, ◌||◌, List, [], ◌∷◌, ◌++◌, length, Option, None, Some, refl, sym, ap, ◌∙◌, subst, inl, inr, arith}
use Rattle.std.specs.Prelude.{nat_eq, slice_get}
use Rattle.std.specs.List.{IsDistinct, AllByRecursion, list_any}
use Rattle.std.proofs.lemmas.Bool.{true≢false, false≢true, cases_Bool, or_cases, and_parts, eqb-true}
use Rattle.std.proofs.lemmas.List.Folds.{list_any-append}
use Rattle.std.proofs.lemmas.Map.Steps.{length-le_from_distinct_below}
use Rattle.std.proofs.lemmas.Option.{same_Some, none-some, slice_get_within}
use Rattle.tup_path.specs.Order.{same_path}
use Rattle.tup_rule.specs.declared.rule.Rule.{Rule}
use Rattle.tup_rule.specs.Rule.{maker}
use Rattle.tup_rule.specs.Producer.{MakesFor, ProducerOver}
use Rattle.tup_rule.proofs.Laws.{maker-Some}
use Rattle.tup_access.specs.declared.verdict.Verdict.{Verdict}
use Rattle.tup_clean.specs.Clean.{good_at, producers_good}
use Rattle.tup_clean.specs.AnyOrder.{AreProducersGood}
use Rattle.tup_clean.proofs.MayTake.{one_of}

-- ---- a walk back from a rule: its maker of something, a maker of something for that, and so on

abbrev IsWalk : List Rule → Rule → ℕ → List ℕ → ℕ → Type 0
IsWalk rules rule first [] at = MakesFor rules rule first × (first ≡ at)
IsWalk rules rule first (next ∷ more) at = MakesFor rules rule first × ((other : Rule) × (slice_get rules first ≡ Some other) × IsWalk rules other next more at)

-- with no rule twice
record IsPlainWalk (rules : List Rule) (rule : Rule) (first : ℕ) (more : List ℕ) (at : ℕ) : Type 0 where
  walk : IsWalk rules rule first more at
  distinct : IsDistinct nat_eq (first ∷ more)

-- a walk that comes by a rule once more can go on from there at once
cut : (rules : List Rule) (rule : Rule) (first : ℕ) → MakesFor rules rule first → (other : Rule) (next : ℕ) (more : List ℕ) (at : ℕ) → IsWalk rules other next more at → IsDistinct nat_eq (next ∷ more) →
    list_any (nat_eq first) (next ∷ more) ≡ true → (rest : List ℕ) × IsPlainWalk rules rule first rest at
unfolding IsDistinct
cut rules rule first makes other next [] at walk distinct found =
    elim (or_cases (nat_eq first next) false found) [
      | inl same ↦ ([], record { walk = (makes, eqb-true first next same ∙ walk.1); distinct = (tt, tt) })
      | inr none ↦ absurd (false≢true none)
    ]
cut rules rule first makes other next (third ∷ more) at walk distinct found =
    elim (or_cases (nat_eq first next) (list_any (nat_eq first) (third ∷ more)) found) [
      | inl same ↦
          let e = eqb-true first next same in (
            third ∷ more,
            record {
              walk = (makes, (walk.1.0, ap (slice_get rules) e ∙ walk.1.1, walk.1.2));
              distinct = subst (λ (n : ℕ). IsDistinct nat_eq (n ∷ third ∷ more)) (sym e) distinct;
            },
          )
      | inr later ↦ cut rules rule first makes walk.1.0 third more at walk.1.2 distinct.1 later
    ]

pub none_of : (number : ℕ) (list : List ℕ) → list_any (nat_eq number) list ≡ false → AllByRecursion (λ other. nat_eq number other ≡ false) list
none_of number [] apart = tt
none_of number (other ∷ list) apart = (first (nat_eq number other) apart, none_of number list (rest (nat_eq number other) apart))
  where
    first : (b : Bool) → (b || list_any (nat_eq number) list) ≡ false → b ≡ false
    first true found = absurd (true≢false found)
    first false found = refl

    rest : (b : Bool) → (b || list_any (nat_eq number) list) ≡ false → list_any (nat_eq number) list ≡ false
    rest true found = absurd (true≢false found)
    rest false found = found

-- each declared producer is come by on a walk with no rule twice
plain_walk : (between : ℕ) (rules : List Rule) (rule : Rule) (at : ℕ) → ProducerOver between rules rule at → (first : ℕ) × (more : List ℕ) × IsPlainWalk rules rule first more at
unfolding IsDistinct
plain_walk zero rules rule at makes = (at, [], record { walk = (makes, refl); distinct = (tt, tt) })
plain_walk (suc between) rules rule at (next, other, makes, here, rest) =
    let behind = plain_walk between rules other at rest in
    elim (cases_Bool (list_any (nat_eq next) (behind.0 ∷ behind.1))) [
      | inl again ↦
          let shorter = cut rules rule next makes other behind.0 behind.1 at behind.2.walk behind.2.distinct again in
          (next, shorter.0, shorter.1)
      | inr fresh ↦ (
        next,
        behind.0 ∷ behind.1,
        record {
          walk = (makes, (other, here, behind.2.walk));
          distinct = (none_of next (behind.0 ∷ behind.1) fresh, behind.2.distinct);
        },
      )
    ]

-- ---- walks are no longer than there are rules

is_within : (rules : List Rule) (rule : Rule) (first : ℕ) → MakesFor rules rule first → first < length rules
is_within rules rule first makes = let it = maker-Some rules makes.0 first makes.2 in slice_get_within rules first it.rule it.here

within : (rules : List Rule) (rule : Rule) (first : ℕ) (more : List ℕ) (at : ℕ) → IsWalk rules rule first more at → (other : ℕ) → list_any (nat_eq other) (first ∷ more) ≡ true → other < length rules
within rules rule first [] at walk other found =
    elim (or_cases (nat_eq other first) false found) [
      | inl same ↦ subst (λ (n : ℕ). n < length rules) (sym (eqb-true other first same)) (is_within rules rule first walk.0)
      | inr none ↦ absurd (false≢true none)
    ]
within rules rule first (next ∷ more) at walk other found =
    elim (or_cases (nat_eq other first) (list_any (nat_eq other) (next ∷ more)) found) [
      | inl same ↦ subst (λ (n : ℕ). n < length rules) (sym (eqb-true other first same)) (is_within rules rule first walk.0)
      | inr later ↦ within rules walk.1.0 next more at walk.1.2 other later
    ]

-- ---- what the test says of the rules of a walk

-- the maker at a place is Good, and the test passes for it with one step less
record IsGoodBehind (rules : List Rule) (verdicts : List (Option Verdict)) (steps at : ℕ) : Type 0 where
  good : good_at verdicts at ≡ true
  behind : (other : Rule) → slice_get rules at ≡ Some other → producers_good steps rules verdicts other ≡ true

one_step : (rules : List Rule) (verdicts : List (Option Verdict)) (steps : ℕ) (rule : Rule) (at : ℕ) → producers_good (suc steps) rules verdicts rule ≡ true → MakesFor rules rule at → IsGoodBehind rules verdicts steps at
one_step rules verdicts steps rule at good (path, declared, made) =
    by (maker path rules) made (one_of _ (rule.inputs ++ rule.order) good path (list_any-append (same_path path) rule.inputs rule.order ∙ declared))
  where
    by_rule : (o : Option Rule) (other : Rule) → o ≡ Some other → elim o as (λ _. Bool) [ Some one ↦ producers_good steps rules verdicts one | None ↦ true ] ≡ true → producers_good steps rules verdicts other ≡ true
    by_rule None other none passes = absurd (none-some other none)
    by_rule (Some one) other is passes = subst (λ (r : Rule). producers_good steps rules verdicts r ≡ true) (same_Some one other is) passes

    by : (m : Option ℕ) → m ≡ Some at → elim m as (λ _. Bool) [
      | None ↦ true
      | Some place ↦ good_at verdicts place && elim (slice_get rules place) [ Some other ↦ producers_good steps rules verdicts other | None ↦ true ]
    ] ≡ true → IsGoodBehind rules verdicts steps at
    by None none passes = absurd (none-some at none)
    by (Some place) is passes =
        let same : place ≡ at = same_Some place at is in
        let parts = and_parts (good_at verdicts place) _ passes in
        record {
          good = subst (λ (n : ℕ). good_at verdicts n ≡ true) same parts.0;
          behind = λ other here. by_rule (slice_get rules place) other (ap (slice_get rules) same ∙ here) parts.1;
        }

along : (rules : List Rule) (verdicts : List (Option Verdict)) (steps : ℕ) (rule : Rule) (first : ℕ) (more : List ℕ) (at : ℕ) → length more < steps → producers_good steps rules verdicts rule ≡ true →
    IsWalk rules rule first more at → good_at verdicts at ≡ true
along rules verdicts zero rule first more at short good walk = absurd (omega arith)
along rules verdicts (suc steps) rule first [] at short good walk =
    subst (λ (n : ℕ). good_at verdicts n ≡ true) walk.1 (one_step rules verdicts steps rule first good walk.0).good
along rules verdicts (suc steps) rule first (next ∷ more) at short good walk =
    along rules verdicts steps walk.1.0 next more at (omega arith) ((one_step rules verdicts steps rule first good walk.0).behind walk.1.0 walk.1.1) walk.1.2

-- so all declared producers of a rule that passes are Good
pub counted_all : (rules : List Rule) (verdicts : List (Option Verdict)) (rule : Rule) → producers_good (length rules) rules verdicts rule ≡ true → AreProducersGood rules verdicts rule
counted_all rules verdicts rule good at (between, over) =
    let plain = plain_walk between rules rule at over in
    let short = length-le_from_distinct_below (plain.0 ∷ plain.1) (length rules) plain.2.distinct (within rules rule plain.0 plain.1 at plain.2.walk) in
    along rules verdicts (length rules) rule plain.0 plain.1 at (omega (arith, short)) good plain.2.walk
