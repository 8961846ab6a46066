-- What is in lists that are made of others.
use Rattle.std.proofs.Common.{◌≡◌, ◌⊎◌, inl, inr, ℕ, List, [], ◌∷◌, ◌++◌, map, flat_map, Some, Contains, slice_get, sym, ap, ◌∙◌, subst}
use Rattle.std.proofs.lemmas.List.Elements.{Contains-append_cases, Contains-append_left, Contains-append_right}
use Rattle.std.proofs.lemmas.Option.{slice_get-get_or, slice_get_within, get_or_from_slice_get}
use Rattle.tup_readers.proofs.Entries.{behind_front, front_or_behind, in_front, none_in}

module _ {X Y : Type 0} where
  pub in_map : (f : X → Y) (xs : List X) (y : Y) → Contains (map f xs) y → (x : X) × Contains xs x × (f x ≡ y)
  in_map f [] y h = absurd (none_in y h)
  in_map f (x ∷ xs) y h = by (front_or_behind (f x) y (map f xs) h) (in_map f xs y)
    where
      by : (f x ≡ y) ⊎ Contains (map f xs) y → (Contains (map f xs) y → (z : X) × Contains xs z × (f z ≡ y)) → (z : X) × Contains (x ∷ xs) z × (f z ≡ y)
      by (inl is) more = (x, in_front x xs, is)
      by (inr later) more = (let found = more later in (found.0, behind_front x found.0 xs found.1, found.2))

  pub map_in : (f : X → Y) (xs : List X) (x : X) → Contains xs x → Contains (map f xs) (f x)
  map_in f [] x h = absurd (none_in x h)
  map_in f (first ∷ xs) x h = by (front_or_behind first x xs h) (map_in f xs x)
    where
      by : (first ≡ x) ⊎ Contains xs x → (Contains xs x → Contains (map f xs) (f x)) → Contains (f first ∷ map f xs) (f x)
      by (inl is) more = subst (λ (z : X). Contains (f first ∷ map f xs) (f z)) is (in_front (f first) (map f xs))
      by (inr later) more = behind_front (f first) (f x) (map f xs) (more later)

  pub in_flat_map : (f : X → List Y) (xs : List X) (y : Y) → Contains (flat_map f xs) y → (x : X) × Contains xs x × Contains (f x) y
  in_flat_map f [] y h = absurd (none_in y h)
  in_flat_map f (x ∷ xs) y h = by (Contains-append_cases (f x) (flat_map f xs) y h) (in_flat_map f xs y)
    where
      by : Contains (f x) y ⊎ Contains (flat_map f xs) y → (Contains (flat_map f xs) y → (z : X) × Contains xs z × Contains (f z) y) → (z : X) × Contains (x ∷ xs) z × Contains (f z) y
      by (inl here) more = (x, in_front x xs, here)
      by (inr later) more = (let found = more later in (found.0, behind_front x found.0 xs found.1, found.2))

  pub flat_map_in : (f : X → List Y) (xs : List X) (x : X) (y : Y) → Contains xs x → Contains (f x) y → Contains (flat_map f xs) y
  flat_map_in f [] x y h here = absurd (none_in x h)
  flat_map_in f (first ∷ xs) x y h here = by (front_or_behind first x xs h) (λ later. flat_map_in f xs x y later here)
    where
      by : (first ≡ x) ⊎ Contains xs x → (Contains xs x → Contains (flat_map f xs) y) → Contains (f first ++ flat_map f xs) y
      by (inl is) more = Contains-append_left (f first) (flat_map f xs) y (subst (λ (z : X). Contains (f z) y) (sym is) here)
      by (inr later) more = Contains-append_right (f first) (flat_map f xs) y (more later)

-- what stands at a place of a list is in it, and the other way round
pub at_place : {X : Type 0} (xs : List X) (at : ℕ) (x : X) → slice_get xs at ≡ Some x → Contains xs x
at_place xs at x e = (at, slice_get_within xs at x e, get_or_from_slice_get xs at x x e)

pub place_of : {X : Type 0} (xs : List X) (x : X) → Contains xs x → (at : ℕ) × (slice_get xs at ≡ Some x)
place_of xs x h = (h.0, slice_get-get_or xs h.0 x h.1 ∙ ap Some h.2)
