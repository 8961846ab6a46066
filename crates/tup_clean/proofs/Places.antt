-- Facts about the places of lists.
use Rattle.std.proofs.Common.{◌≡◌, ◌⊎◌, ℕ, zero, suc, ◌<◌, Bool, true, false, List, [], ◌∷◌, length, get_or, Some, replicate, refl, sym, ap, arith, inl, inr}
use Rattle.std.proofs.lemmas.Bool.{cases_Bool, false≢true, lt-ltb}
use Rattle.std.proofs.lemmas.Option.{same_Some, none-some, slice_get-get_or, slice_get_within, get_or_from_slice_get}
use Rattle.std.proofs.lemmas.List.Sums.{position_or_len_is}
use Rattle.std.proofs.lemmas.List.Quantifiers.{position-Some}
use Rattle.std.specs.List.{slice_get, slice_set, list_any, position, position_or_len, zip}

-- a list that has an element at a place is longer than that
pub some_place : {A : Type 0} (xs : List A) (i : ℕ) → i < length xs → (x : A) × (slice_get xs i ≡ Some x)
some_place [] i within = absurd (omega arith)
some_place (x ∷ xs) zero within = (x, refl)
some_place (x ∷ xs) (suc i) within = some_place xs i (omega arith)

-- ---- after a write

pub set_here : {A : Type 0} (xs : List A) (i : ℕ) (x : A) → i < length xs → slice_get (slice_set xs i x) i ≡ Some x
set_here [] i x within = absurd (omega arith)
set_here (y ∷ xs) zero x within = refl
set_here (y ∷ xs) (suc i) x within = set_here xs i x (omega arith)

pub set_apart : {A : Type 0} (xs : List A) (i k : ℕ) (x : A) → (k ≡ i → ⊥) → slice_get (slice_set xs i x) k ≡ slice_get xs k
set_apart [] i k x apart = refl
set_apart (y ∷ xs) zero zero x apart = absurd (apart refl)
set_apart (y ∷ xs) zero (suc k) x apart = refl
set_apart (y ∷ xs) (suc i) zero x apart = refl
set_apart (y ∷ xs) (suc i) (suc k) x apart = set_apart xs i k x (λ same. apart (ap suc same))

-- what stands at a place after a write was written, or stood there before
pub set_cases : {A : Type 0} (xs : List A) (i k : ℕ) (x y : A) → slice_get (slice_set xs i x) k ≡ Some y → (y ≡ x) ⊎ (slice_get xs k ≡ Some y)
set_cases [] i k x y e = inr e
set_cases (z ∷ xs) zero zero x y e = inl (sym (same_Some x y e))
set_cases (z ∷ xs) zero (suc k) x y e = inr e
set_cases (z ∷ xs) (suc i) zero x y e = inr e
set_cases (z ∷ xs) (suc i) (suc k) x y e = set_cases xs i k x y e

-- a list with one element everywhere
pub all_replicate : {A : Type 0} (n : ℕ) (x : A) (xs : List A) → length xs ≡ n → ((k : ℕ) → k < n → slice_get xs k ≡ Some x) → xs ≡ replicate n x
all_replicate zero x [] long each = refl
all_replicate zero x (y ∷ ys) long each = absurd (omega (arith, long))
all_replicate (suc n) x [] long each = absurd (omega (arith, long))
all_replicate (suc n) x (y ∷ ys) long each =
    let head : y ≡ x = same_Some y x (each 0 (omega arith)) in
    let rest = all_replicate n x ys (omega (arith, long)) (λ k below. each (suc k) (omega arith)) in
    λ i. head i ∷ rest i

-- ---- the first that passes

pub position_here : {A : Type 0} (p : A → Bool) (xs : List A) (i : ℕ) (x : A) → slice_get xs i ≡ Some x → p x ≡ true →
    ((k : ℕ) (y : A) → k < i → slice_get xs k ≡ Some y → p y ≡ false) → position p xs ≡ Some i
position_here p xs i x here passes before =
    let within = slice_get_within xs i x here in
    let at_i = position_or_len_is p xs i x (omega arith)
    (λ k below. before k _ below (slice_get-get_or xs k x (omega arith)))
    (λ _. rw (get_or_from_slice_get xs i x x here) passes) in
    grind (arith, at_i)

pub position_found : {A : Type 0} (p : A → Bool) (xs : List A) (i : ℕ) → position p xs ≡ Some i → (x : A) × (slice_get xs i ≡ Some x) × (p x ≡ true)
position_found p [] i first = absurd (none-some i first)
position_found p (y ∷ ys) i first =
    let facts = position-Some p (y ∷ ys) i y first in
    (get_or (y ∷ ys) i y, slice_get-get_or (y ∷ ys) i y facts.0, facts.1)

any_before : {A : Type 0} (p : A → Bool) (xs : List A) → list_any p xs ≡ true → position_or_len p xs < length xs
any_before p [] any = absurd (false≢true any)
any_before p (x ∷ xs) any =
    elim (cases_Bool (p x)) [
      | inl passes ↦ rw passes (omega arith)
      | inr fails ↦ rw fails (let rest = any_before p xs (rw fails at any) in omega arith)
    ]

pub position_any : {A : Type 0} (p : A → Bool) (xs : List A) → list_any p xs ≡ true → position p xs ≡ Some (position_or_len p xs)
position_any p xs any = rw (lt-ltb _ _ (any_before p xs any)) refl

-- ---- two lists side by side

pub zip_here : {A B : Type 0} (xs : List A) (ys : List B) (i : ℕ) (x : A) (y : B) → slice_get xs i ≡ Some x → slice_get ys i ≡ Some y → slice_get (zip xs ys) i ≡ Some (x, y)
zip_here [] ys i x y a b = absurd (none-some x a)
zip_here (x' ∷ xs) [] i x y a b = absurd (none-some y b)
zip_here (x' ∷ xs) (y' ∷ ys) zero x y a b = λ i. Some (same_Some x' x a i, same_Some y' y b i)
zip_here (x' ∷ xs) (y' ∷ ys) (suc i) x y a b = zip_here xs ys i x y a b

pub zip_first : {A B : Type 0} (xs : List A) (ys : List B) (i : ℕ) (p : A × B) → slice_get (zip xs ys) i ≡ Some p → slice_get xs i ≡ Some p.0
zip_first [] ys i p e = absurd (none-some p e)
zip_first (x ∷ xs) [] i p e = absurd (none-some p e)
zip_first (x ∷ xs) (y ∷ ys) zero p e = ap Some (ap (λ (q : _ × _). q.0) (same_Some _ p e))
zip_first (x ∷ xs) (y ∷ ys) (suc i) p e = zip_first xs ys i p e

pub zip_second : {A B : Type 0} (xs : List A) (ys : List B) (i : ℕ) (p : A × B) → slice_get (zip xs ys) i ≡ Some p → slice_get ys i ≡ Some p.1
zip_second [] ys i p e = absurd (none-some p e)
zip_second (x ∷ xs) [] i p e = absurd (none-some p e)
zip_second (x ∷ xs) (y ∷ ys) zero p e = ap Some (ap (λ (q : _ × _). q.1) (same_Some _ p e))
zip_second (x ∷ xs) (y ∷ ys) (suc i) p e = zip_second xs ys i p e
