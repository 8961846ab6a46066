-- What a list has whose elements pass a test.
use Rattle.std.specs.Prelude.{◌≡◌, Bool, true, false, cond, List, [], ◌∷◌, Contains, filter}
use Rattle.std.proofs.Common.{refl, sym, ap, subst, ◌∙◌, inl, inr}
use Rattle.tup_readers.proofs.Entries.{behind_front, front_or_behind, in_front, none_in}

module _ {X : Type 0} (p : X → Bool) where
  pub in_filter : (xs : List X) (x : X) → Contains xs x → p x ≡ true → Contains (filter p xs) x
  in_filter [] x h passes = absurd (none_in x h)
  in_filter (first ∷ xs) x h passes = elim (front_or_behind first x xs h) [
    | inl same ↦ subst (λ (b : Bool). Contains (cond b (first ∷ filter p xs) (filter p xs)) x) (sym (ap p same ∙ passes)) (subst (Contains (first ∷ filter p xs)) same (in_front first (filter p xs)))
    | inr later ↦ either (p first) (in_filter xs x later passes)
  ]
    where
      either : (b : Bool) → Contains (filter p xs) x → Contains (cond b (first ∷ filter p xs) (filter p xs)) x
      either true h = behind_front first x (filter p xs) h
      either false h = h

  pub filter_in : (xs : List X) (x : X) → Contains (filter p xs) x → Contains xs x × (p x ≡ true)
  filter_in [] x h = absurd (none_in x h)
  filter_in (first ∷ xs) x h = either (p first) refl (filter_in xs x) h
    where
      later : Contains xs x × (p x ≡ true) → Contains (first ∷ xs) x × (p x ≡ true)
      later (h, passes) = (behind_front first x xs h, passes)

      either : (b : Bool) → p first ≡ b → (Contains (filter p xs) x → Contains xs x × (p x ≡ true)) → Contains (cond b (first ∷ filter p xs) (filter p xs)) x → Contains (first ∷ xs) x × (p x ≡ true)
      either true passes more h = elim (front_or_behind first x (filter p xs) h) [
        | inl same ↦ (subst (Contains (first ∷ xs)) same (in_front first xs), ap p (sym same) ∙ passes)
        | inr behind ↦ later (more behind)
      ]
      either false fails more h = later (more h)
