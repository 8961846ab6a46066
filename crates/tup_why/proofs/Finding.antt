-- What loops found out of asks and files, and of rules.
use Rattle.std.specs.Prelude.{◌≡◌, ℕ, ◌+◌, ◌<◌, ◌≤◌, List, [], ◌∷◌, None, Some, Contains, length, slice_get}
use Rattle.std.proofs.Common.{sym, subst, ◌∙◌, inl, inr, take, get_or, arith}
use Rattle.std.proofs.lemmas.List.{get_or_default, take_all}
use Rattle.std.proofs.lemmas.List.Elements.{Contains-push_cases}
use Rattle.std.proofs.lemmas.Option.{get_or_from_slice_get, none-some, slice_get_within}
use Rattle.tup_closure.proofs.Asked.{taken}

-- each value of a list has a property
abbrev pub EachIn : {X : Type 0} → (X → Type 0) → List X → Type 0
EachIn {X} P xs = (x : X) → Contains xs x → P x

module _ {X : Type 0} where
  pub each_of_none : (P : X → Type 0) → EachIn P []
  each_of_none P x h = let less = h.1 in absurd (omega arith)

  -- the value at a place is in the list
  pub is_here : (xs : List X) (i : ℕ) (x d : X) → i < length xs → x ≡ get_or xs i d → Contains xs x
  is_here xs i x d less is = (i, less, get_or_default xs i x d less ∙ sym is)

  pub each_more : (P : X → Type 0) (xs : List X) (i : ℕ) (x d : X) → i < length xs → x ≡ get_or xs i d → EachIn P (take i xs) → P x → EachIn P (take (i + 1) xs)
  each_more P xs i x d less is before one y h =
      elim (Contains-push_cases (take i xs) x y (subst (λ (l : List X). Contains l y) (taken xs i x d less is) h)) [
        | inl earlier ↦ before y earlier
        | inr last ↦ subst P last one
      ]

  pub each_of_all : (P : X → Type 0) (xs : List X) (i : ℕ) → length xs ≤ i → EachIn P (take i xs) → EachIn P xs
  each_of_all P xs i whole each = subst (EachIn P) (take_all i xs whole) each

-- a first value is in its list
pub first_here : (xs : List ℕ) (x : ℕ) → Some x ≡ slice_get xs 0 → Contains xs x
first_here xs x is = (0, slice_get_within xs 0 x (sym is), get_or_from_slice_get xs 0 x x (sym is))

-- where there is no first value, there is none
pub none_first : (xs : List ℕ) (x : ℕ) → None ≡ slice_get xs 0 → Contains xs x → ⊥
none_first [] x none h = let less = h.1 in omega arith
none_first (y ∷ ys) x none h = none-some y none
