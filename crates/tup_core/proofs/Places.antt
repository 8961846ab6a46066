-- The first place of a list at which a test passes.
use Rattle.std.proofs.Common.{◌≡◌, ℕ, zero, suc, Bool, true, List, [], ◌∷◌, get_or, Some}
use Rattle.std.proofs.lemmas.Bool.{or_left, or_right}
use Rattle.std.proofs.lemmas.Option.{same_Some, none-some, slice_get-get_or}
use Rattle.std.proofs.lemmas.List.Quantifiers.{position-Some}
use Rattle.std.specs.List.{slice_get, list_any, position, position_or_len}
use Rattle.tup_clean.proofs.Places.{position_any}

pub record IsFirst {A : Type 0} (p : A → Bool) (xs : List A) : Type 0 where
  pub at : ℕ
  pub item : A
  pub here : slice_get xs at ≡ Some item
  pub passes : p item ≡ true
  pub first : position p xs ≡ Some at
  pub any : list_any p xs ≡ true

any_at : {A : Type 0} (p : A → Bool) (xs : List A) (at : ℕ) (x : A) → slice_get xs at ≡ Some x → p x ≡ true → list_any p xs ≡ true
any_at p [] at x here passes = absurd (none-some x here)
any_at p (y ∷ ys) zero x here passes = or_left (p y) (list_any p ys) (rw (same_Some y x here) passes)
any_at p (y ∷ ys) (suc at) x here passes = or_right (p y) (list_any p ys) (any_at p ys at x here passes)

pub first_of : {A : Type 0} (p : A → Bool) (xs : List A) (at : ℕ) (x : A) → slice_get xs at ≡ Some x → p x ≡ true → IsFirst p xs
first_of p xs at x here passes =
    let any = any_at p xs at x here passes in
    let first = position_any p xs any in
    let facts = position-Some p xs (position_or_len p xs) x first in
    record {
      at = position_or_len p xs;
      item = get_or xs (position_or_len p xs) x;
      here = slice_get-get_or xs (position_or_len p xs) x facts.0;
      passes = facts.1;
      first = first;
      any = any;
    }
