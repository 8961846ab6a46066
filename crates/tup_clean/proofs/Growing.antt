-- A build under way: which rule comes next, and that behind each Good rule all its producers are Good.
use Rattle.std.specs.Prelude.{◌≡◌, ℕ, zero, suc, Bool, true, false, ◌&&◌, List, [], ◌∷◌, ◌++◌, length, Option, None, Some, position, is_none, slice_get, slice_set, replicate, nat_lt, ◌+◌}
use Rattle.std.specs.List.{list_all, zip, prefix_len}
use Rattle.std.proofs.Common.{refl, sym, ap, ◌∙◌, subst, inl, inr, not, cond}
use Rattle.std.proofs.lemmas.Bool.{cases_Bool, false≢true, true≢false, and_from, and_parts, and_left, cases_eq}
use Rattle.std.proofs.lemmas.List.Folds.{list_all-append}
use Rattle.std.proofs.lemmas.Option.{same_Some}
use Rattle.tup_rule.specs.declared.rule.Rule.{Rule}
use Rattle.tup_rule.specs.Rule.{maker}
use Rattle.tup_access.specs.declared.verdict.Verdict.{Verdict}
use Rattle.tup_clean.specs.Clean.{good_at, producers_good, first_ready}
use Rattle.tup_clean.specs.Ready.{is_made, makers_good, next_ready, IsGrown}
use Rattle.tup_clean.proofs.Places.{set_apart, position_found, zip_first, zip_second}

-- ---- lists

same_all : {A : Type 0} (p q : A → Bool) → ((x : A) → p x ≡ q x) → (xs : List A) → list_all p xs ≡ list_all q xs
same_all p q same [] = refl
same_all p q same (x ∷ xs) = λ i. same x i && same_all p q same xs i

more_all : {A : Type 0} (p q : A → Bool) → ((x : A) → p x ≡ true → q x ≡ true) → (xs : List A) → list_all p xs ≡ true → list_all q xs ≡ true
more_all p q more [] all = refl
more_all p q more (x ∷ xs) all =
    let parts = and_parts (p x) (list_all p xs) all in and_from (q x) (list_all q xs) (more x parts.0) (more_all p q more xs parts.1)

same_prefix : {A : Type 0} (p q : A → Bool) → ((x : A) → p x ≡ q x) → (xs : List A) → prefix_len (λ x. not (p x)) xs ≡ prefix_len (λ x. not (q x)) xs
same_prefix p q same [] = refl
same_prefix p q same (x ∷ xs) = λ i. cond (not (same x i)) (1 + same_prefix p q same xs i) 0

same_position : {A : Type 0} (p q : A → Bool) → ((x : A) → p x ≡ q x) → (xs : List A) → position p xs ≡ position q xs
same_position p q same xs = ap (λ (n : ℕ). cond (nat_lt n (length xs)) (Some n) None) (same_prefix p q same xs)

-- ---- one step back is enough

grown_producer : (rules : List Rule) (verdicts : List (Option Verdict)) → IsGrown rules verdicts → (steps at : ℕ) → good_at verdicts at ≡ true →
    elim (slice_get rules at) as (λ _. Bool) [ Some other ↦ producers_good steps rules verdicts other | None ↦ true ] ≡ true
grown_producer rules verdicts grown steps at good =
    elim (slice_get rules at) as (λ o. slice_get rules at ≡ o → elim o as (λ _. Bool) [ Some other ↦ producers_good steps rules verdicts other | None ↦ true ] ≡ true) [
      | Some other ↦ λ here. grown at other steps good here
      | None ↦ λ none. refl
    ] refl

one_path : (rules : List Rule) (verdicts : List (Option Verdict)) → IsGrown rules verdicts → (steps : ℕ) (made : Option ℕ) →
    elim made as (λ _. Bool) [
      | None ↦ true
      | Some at ↦ good_at verdicts at && elim (slice_get rules at) [ Some other ↦ producers_good steps rules verdicts other | None ↦ true ]
    ] ≡ elim made as (λ _. Bool) [ None ↦ true | Some at ↦ good_at verdicts at ]
one_path rules verdicts grown steps None = refl
one_path rules verdicts grown steps (Some at) =
    elim (cases_Bool (good_at verdicts at)) [
      | inl good ↦ and_from _ _ good (grown_producer rules verdicts grown steps at good) ∙ sym good
      | inr bad ↦ and_left _ _ bad ∙ sym bad
    ]

one_step : (rules : List Rule) (verdicts : List (Option Verdict)) → IsGrown rules verdicts → (steps : ℕ) (rule : Rule) → producers_good (suc steps) rules verdicts rule ≡ makers_good rules verdicts rule
one_step rules verdicts grown steps rule =
    same_all _ _ (λ path. one_path rules verdicts grown steps (maker path rules)) (rule.inputs ++ rule.order)
    ∙ list_all-append (is_made rules verdicts) rule.inputs rule.order

next_grown : (rules : List Rule) (verdicts : List (Option Verdict)) → IsGrown rules verdicts → (rule : Rule) → makers_good rules verdicts rule ≡ true → (steps : ℕ) → producers_good steps rules verdicts rule ≡ true
next_grown rules verdicts grown rule makers zero = refl
next_grown rules verdicts grown rule makers (suc steps) = one_step rules verdicts grown steps rule ∙ makers

-- so the rule that comes next is the first whose makers are Good
pub next_ready-first_ready : (rules : List Rule) (verdicts : List (Option Verdict)) → IsGrown rules verdicts → next_ready rules verdicts ≡ first_ready rules verdicts
next_ready-first_ready [] verdicts grown = refl
next_ready-first_ready (rule ∷ rules) verdicts grown =
    same_position _ _ (λ p. ap (λ b. is_none p.1 && b) (sym (one_step (rule ∷ rules) verdicts grown (length rules) p.0))) (zip (rule ∷ rules) verdicts)

-- ---- how a build goes on growing

pub none_good : (n at : ℕ) → good_at (replicate n None) at ≡ false
none_good zero at = refl
none_good (suc n) zero = refl
none_good (suc n) (suc at) = none_good n at

pub grown_start : (rules : List Rule) (n : ℕ) → IsGrown rules (replicate n None)
grown_start rules n at rule steps good here = absurd (false≢true (sym (none_good n at) ∙ good))

more_path : (rules : List Rule) (one other : List (Option Verdict)) (steps : ℕ) → ((at : ℕ) → good_at one at ≡ true → good_at other at ≡ true) →
    ((rule : Rule) → producers_good steps rules one rule ≡ true → producers_good steps rules other rule ≡ true) → (made : Option ℕ) →
    elim made as (λ _. Bool) [
      | None ↦ true
      | Some at ↦ good_at one at && elim (slice_get rules at) [ Some producer ↦ producers_good steps rules one producer | None ↦ true ]
    ] ≡ true →
    elim made as (λ _. Bool) [
      | None ↦ true
      | Some at ↦ good_at other at && elim (slice_get rules at) [ Some producer ↦ producers_good steps rules other producer | None ↦ true ]
    ] ≡ true
more_path rules one other steps more deeper None good = refl
more_path rules one other steps more deeper (Some at) good =
    let parts = and_parts (good_at one at) _ good in
    and_from _ _ (more at parts.0)
    (elim (slice_get rules at) as (λ o. elim o as (λ _. Bool) [ Some producer ↦ producers_good steps rules one producer | None ↦ true ] ≡ true → elim o as (λ _. Bool) [ Some producer ↦ producers_good steps rules other producer | None ↦ true ] ≡ true) [
      | Some producer ↦ deeper producer
      | None ↦ λ _. refl
    ] parts.1)

-- with more Good rules the producers of a rule stay Good
more_good : (rules : List Rule) (one other : List (Option Verdict)) → ((at : ℕ) → good_at one at ≡ true → good_at other at ≡ true) →
    (steps : ℕ) (rule : Rule) → producers_good steps rules one rule ≡ true → producers_good steps rules other rule ≡ true
more_good rules one other more zero rule good = refl
more_good rules one other more (suc steps) rule good =
    more_all _ _ (λ path. more_path rules one other steps more (more_good rules one other more steps) (maker path rules)) (rule.inputs ++ rule.order) good

pub is_none_None : {A : Type 0} (o : Option A) → is_none o ≡ true → o ≡ None
is_none_None None none = refl
is_none_None (Some x) none = absurd (false≢true none)

-- the rule that comes next has no verdict, and its makers are Good
next_ready-tells : (rules : List Rule) (verdicts : List (Option Verdict)) (at : ℕ) (rule : Rule) → next_ready rules verdicts ≡ Some at → slice_get rules at ≡ Some rule →
    (slice_get verdicts at ≡ Some None) × (makers_good rules verdicts rule ≡ true)
next_ready-tells rules verdicts at rule ready here =
    let found = position_found (λ (p : Rule × Option Verdict). is_none p.1 && makers_good rules verdicts p.0) (zip rules verdicts) at ready in
    let tests = and_parts (is_none found.0.1) (makers_good rules verdicts found.0.0) found.2 in
    let same_rule : found.0.0 ≡ rule = same_Some _ _ (sym (zip_first rules verdicts at found.0 found.1) ∙ here) in
    (zip_second rules verdicts at found.0 found.1 ∙ ap Some (is_none_None found.0.1 tests.0), subst (λ (r : Rule). makers_good rules verdicts r ≡ true) same_rule tests.1)

-- another verdict takes none away
pub stays_good : (verdicts : List (Option Verdict)) (at : ℕ) (verdict : Verdict) → slice_get verdicts at ≡ Some None →
    (place : ℕ) → good_at verdicts place ≡ true → good_at (slice_set verdicts at (Some verdict)) place ≡ true
stays_good verdicts at verdict none place good =
    let apart : place ≡ at → ⊥ = λ same. true≢false (sym good ∙ rw (same, good_at, none) refl) in
    rw (good_at, set_apart verdicts at place (Some verdict) apart) good

-- and gives none but its own
pub was_good : (verdicts : List (Option Verdict)) (at : ℕ) (verdict : Verdict) (place : ℕ) → (place ≡ at → ⊥) →
    good_at (slice_set verdicts at (Some verdict)) place ≡ true → good_at verdicts place ≡ true
was_good verdicts at verdict place apart good = rw (← (set_apart verdicts at place (Some verdict) apart), good_at) good

pub grown_more : (rules : List Rule) (verdicts : List (Option Verdict)) (at : ℕ) (rule : Rule) (verdict : Verdict) → IsGrown rules verdicts →
    next_ready rules verdicts ≡ Some at → slice_get rules at ≡ Some rule → IsGrown rules (slice_set verdicts at (Some verdict))
grown_more rules verdicts at rule verdict grown ready here place other steps good there =
    let tells = next_ready-tells rules verdicts at rule ready here in
    let before : producers_good steps rules verdicts other ≡ true = elim (cases_eq place at) [
      | inl same ↦
          let equal : other ≡ rule = same_Some _ _ (sym there ∙ rw same here) in
          rw equal (next_grown rules verdicts grown rule tells.1 steps)
      | inr apart ↦ grown place other steps (was_good verdicts at verdict place apart good) there
    ] in
    more_good rules verdicts (slice_set verdicts at (Some verdict)) (stays_good verdicts at verdict tells.0) steps other before
