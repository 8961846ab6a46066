-- How often a number stands in a list, and how many of some producers aren't Good.
use Rattle.std.proofs.Common.{◌≡◌, ℕ, zero, suc, ◌+◌, ◌<◌, ◌≤◌, ◌==◌, Bool, true, false, ◌&&◌, ◌||◌, if◌then◌else◌, List, [], ◌∷◌, ◌++◌, length, take, get_or, refl, sym, ap, ◌∙◌, inl, inr, ◌⊎◌, arith}
use Rattle.std.proofs.lemmas.Bool.{cases_eq, cases_order, eq-eqb, ne_eqb, le-ltb, lt-ltb}
use Rattle.std.proofs.lemmas.List.{take_more}
use Rattle.std.specs.List.{list_all}
use Rattle.std.specs.BTreeMap.{is_at}
use Rattle.std.specs.Ordering.{nat_cmp}
use Rattle.tup_clean.specs.Queue.{count_of, waits_for}

-- ---- numbers

-- a number is the one that a set was asked for, or another
pub at_number : (x y : ℕ) → ((x ≡ y) × (is_at (nat_cmp x) y ≡ true)) ⊎ ((x ≡ y → ⊥) × (is_at (nat_cmp x) y ≡ false))
at_number x y =
    elim (cases_order x y) [
      | inl same ↦ inl (same, rw (le-ltb x y (omega arith), eq-eqb x y same) refl)
      | inr (inl below) ↦ inr ((λ same. absurd (omega arith)), rw (lt-ltb x y below) refl)
      | inr (inr above) ↦ inr ((λ same. absurd (omega arith)), rw (le-ltb x y (omega arith), ne_eqb x y (λ same. absurd (omega arith))) refl)
    ]

-- ---- counts

-- one if a number is this one
abbrev pub one_if : ℕ → ℕ → ℕ
one_if other at = if other == at then 1 else 0

pub one_if-same : (other at : ℕ) → other ≡ at → one_if other at ≡ 1
one_if-same other at same = rw (eq-eqb other at same) refl

pub one_if-other : (other at : ℕ) → (other ≡ at → ⊥) → one_if other at ≡ 0
one_if-other other at apart = rw (ne_eqb other at apart) refl

pub count_of-push : (at : ℕ) (list : List ℕ) (other : ℕ) → count_of at (list ++ other ∷ []) ≡ count_of at list + one_if other at
count_of-push at [] other = omega arith
count_of-push at (first ∷ list) other = let rest = count_of-push at list other in omega (arith, rest)

pub count_of-take : (at : ℕ) (list : List ℕ) (i other : ℕ) → i < length list → other ≡ get_or list i 0 → count_of at (take (i + 1) list) ≡ count_of at (take i list) + one_if other at
count_of-take at list i other less here =
    ap (count_of at) (take_more list i 0 less ∙ ap (λ x. take i list ++ x ∷ []) (sym here)) ∙ count_of-push at (take i list) other

pub count_of-take-le : (at : ℕ) (list : List ℕ) (i : ℕ) → count_of at (take i list) ≤ count_of at list
count_of-take-le at list zero = omega arith
count_of-take-le at [] (suc i) = omega arith
count_of-take-le at (first ∷ list) (suc i) = let rest = count_of-take-le at list i in omega (arith, rest)

-- what stands in a list is counted
pub count_of-here : (list : List ℕ) (i : ℕ) → i < length list → 0 < count_of (get_or list i 0) list
count_of-here list i less =
    let more = count_of-take (get_or list i 0) list i (get_or list i 0) less refl ∙ ap (λ one. count_of (get_or list i 0) (take i list) + one) (one_if-same (get_or list i 0) (get_or list i 0) refl) in
    let whole = count_of-take-le (get_or list i 0) list (i + 1) in
    omega (arith, more, whole)

-- ---- producers that aren't Good

pub waits_for-none : (list : List ℕ) → waits_for (λ at. false) list ≡ length list
waits_for-none [] = refl
waits_for-none (at ∷ list) = let rest = waits_for-none list in omega (arith, rest)

-- once one more is Good, they are less by as many as it stands for
pub waits_for-good : (good : ℕ → Bool) (at : ℕ) (list : List ℕ) → good at ≡ false → waits_for good list ≡ waits_for (λ k. good k || k == at) list + count_of at list
waits_for-good good at [] bad = refl
waits_for-good good at (other ∷ list) bad =
    let rest = waits_for-good good at list bad in
    let one : (if good other then 0 else 1) ≡ (if good other || other == at then 0 else 1) + one_if other at =
    elim (cases_eq other at) [
      | inl same ↦ rw (eq-eqb other at same, ap good same ∙ bad) refl
      | inr apart ↦ rw (ne_eqb other at apart) (by (good other))
    ] in
    omega (arith, rest, one)
  where
    by : (b : Bool) → (if b then 0 else 1) ≡ (if b || false then 0 else 1) + 0
    by true = refl
    by false = refl

pub waits_for-count : (good : ℕ → Bool) (at : ℕ) (list : List ℕ) → good at ≡ false → count_of at list ≤ waits_for good list
waits_for-count good at list bad = let more = waits_for-good good at list bad in omega (arith, more)

-- they are none where all are Good
pub waits_for-zero : (good : ℕ → Bool) (list : List ℕ) → (waits_for good list == 0) ≡ list_all good list
waits_for-zero good [] = refl
waits_for-zero good (at ∷ list) = by (good at) (waits_for-zero good list)
  where
    plain : (n : ℕ) → 0 + n ≡ n
    plain n = omega arith

    by : (b : Bool) → (waits_for good list == 0) ≡ list_all good list → ((if b then 0 else 1) + waits_for good list == 0) ≡ (b && list_all good list)
    by true rest = ap (λ n. n == 0) (plain (waits_for good list)) ∙ rest
    by false rest = ne_eqb (1 + waits_for good list) 0 (λ none. absurd (omega arith))
