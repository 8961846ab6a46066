-- Maps into which values were put, one after another.
use Rattle.std.proofs.Common.{◌≡◌, ◌⊎◌, Bool, true, false, cond, ◌||◌, List, [], ◌∷◌, map, fold, Some, refl, sym, ap, ◌∙◌, inl, inr, arith}
use Rattle.std.specs.Prelude.{Contains}
use Rattle.std.specs.FinMap as finite
use Rattle.std.proofs.lemmas.Bool.{true≢false, cases_Bool}
use Rattle.std.proofs.lemmas.List.Elements.{Contains-append_right}
use Rattle.tup_path.specs.Name.{Names}
use Rattle.tup_path.specs.Order.{by_names, same_path, same_path-by_names, by_names-total}
use Rattle.tup_path.proofs.Same.{same_path-decides}
use Rattle.tup_rule.specs.Rule.{among}

module _ {A X : Type 0} (key : A → Names) where
  -- each item's value, put at its key
  abbrev pub put_all : (A → X) → finite.FinMap by_names X → List A → finite.FinMap by_names X
  put_all value m items = fold (λ m (item : A). finite.insert m (key item) (value item)) m items

  pub get_put : (value : A → X) (m : finite.FinMap by_names X) (item : A) (q : Names) → finite.get (finite.insert m (key item) (value item)) q ≡ cond (same_path q (key item)) (Some (value item)) (finite.get m q)
  get_put value m item q =
      finite.get-insert by_names-total m (key item) (value item) q ∙ ap (λ (b : Bool). cond b (Some (value item)) (finite.get m q)) (sym (same_path-by_names q (key item)))

  -- what is no key of theirs has what it had
  pub get_apart : (value : A → X) (items : List A) (m : finite.FinMap by_names X) (q : Names) → among q (map key items) ≡ false → finite.get (put_all value m items) q ≡ finite.get m q
  get_apart value [] m q apart = refl
  get_apart value (item ∷ items) m q apart = by (same_path q (key item)) refl apart (λ rest. get_apart value items (finite.insert m (key item) (value item)) q rest)
    where
      by : (b : Bool) → same_path q (key item) ≡ b → (b || among q (map key items)) ≡ false
          → (among q (map key items) ≡ false → finite.get (put_all value (finite.insert m (key item) (value item)) items) q ≡ finite.get (finite.insert m (key item) (value item)) q)
          → finite.get (put_all value (finite.insert m (key item) (value item)) items) q ≡ finite.get m q
      by true is both later = absurd (true≢false both)
      by false is both later = later both ∙ get_put value m item q ∙ ap (λ (b : Bool). cond b (Some (value item)) (finite.get m q)) is

  -- what is one has the same in two maps into which the same values were put
  pub get_same : (value other : A → X) (items : List A) (m n : finite.FinMap by_names X) (q : Names) → ((item : A) → key item ≡ q → value item ≡ other item)
      → (among q (map key items) ≡ true) ⊎ (finite.get m q ≡ finite.get n q) → finite.get (put_all value m items) q ≡ finite.get (put_all other n items) q
  get_same value other [] m n q alike (inl within) = absurd (true≢false (sym within))
  get_same value other [] m n q alike (inr same) = same
  get_same value other (item ∷ items) m n q alike either =
      get_same value other items (finite.insert m (key item) (value item)) (finite.insert n (key item) (other item)) q alike (by (same_path q (key item)) refl either)
    where
      at : (b : Bool) → same_path q (key item) ≡ b → (value_at : A → X) (map_at : finite.FinMap by_names X) → finite.get (finite.insert map_at (key item) (value_at item)) q ≡ cond b (Some (value_at item)) (finite.get map_at q)
      at b is value_at map_at = get_put value_at map_at item q ∙ ap (λ (c : Bool). cond c (Some (value_at item)) (finite.get map_at q)) is

      by : (b : Bool) → same_path q (key item) ≡ b → ((b || among q (map key items)) ≡ true) ⊎ (finite.get m q ≡ finite.get n q)
          → (among q (map key items) ≡ true) ⊎ (finite.get (finite.insert m (key item) (value item)) q ≡ finite.get (finite.insert n (key item) (other item)) q)
      by true is any = inr (at true is value m ∙ ap Some (alike item (sym ((same_path-decides q (key item)).0 is))) ∙ sym (at true is other n))
      by false is (inl within) = inl within
      by false is (inr same) = inr (at false is value m ∙ same ∙ sym (at false is other n))

  -- and it has the value of one of them
  pub get_own : (value : A → X) (items : List A) (m : finite.FinMap by_names X) (q : Names) → among q (map key items) ≡ true
      → (item : A) × (key item ≡ q) × (finite.get (put_all value m items) q ≡ Some (value item)) × Contains items item
  get_own value [] m q own = absurd (true≢false (sym own))
  get_own value (item ∷ items) m q own = rest (cases_Bool (among q (map key items))) (λ within. get_own value items (finite.insert m (key item) (value item)) q within)
    where
      first_is : (b : Bool) → same_path q (key item) ≡ b → among q (map key items) ≡ false → (b || among q (map key items)) ≡ true
          → (one : A) × (key one ≡ q) × (finite.get (put_all value (finite.insert m (key item) (value item)) items) q ≡ Some (value one)) × Contains (item ∷ items) one
      first_is true is none any = (
        item,
        sym ((same_path-decides q (key item)).0 is),
        get_apart value items (finite.insert m (key item) (value item)) q none ∙ get_put value m item q ∙ ap (λ (b : Bool). cond b (Some (value item)) (finite.get m q)) is,
        (0, omega arith, refl),
      )
      first_is false is none any = absurd (true≢false (sym any ∙ none))

      rest : (among q (map key items) ≡ true) ⊎ (among q (map key items) ≡ false)
          → (among q (map key items) ≡ true → (one : A) × (key one ≡ q) × (finite.get (put_all value (finite.insert m (key item) (value item)) items) q ≡ Some (value one)) × Contains items one)
          → (one : A) × (key one ≡ q) × (finite.get (put_all value (finite.insert m (key item) (value item)) items) q ≡ Some (value one)) × Contains (item ∷ items) one
      rest (inl within) later =
          let found = later within in
          (found.0, found.1, found.2, Contains-append_right (item ∷ []) items found.0 found.3)
      rest (inr none) later = first_is (same_path q (key item)) refl none own
