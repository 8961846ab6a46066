-- What is had of values by their numbers, one value more, and what it contains.
use Rattle.std.specs.Prelude.{◌≡◌, ◌+◌, ◌<◌, ℕ, zero, suc, List, [], ◌∷◌, ◌++◌, Some, Contains, length, take, slice_get}
use Rattle.std.proofs.Common.{refl, sym, ap, subst, ◌∙◌, inl, inr, append_assoc, get_or, arith}
use Rattle.std.proofs.lemmas.List.{append-nil, length-take-le}
use Rattle.std.proofs.lemmas.List.Elements.{Contains-append_left, Contains-append_right, Contains-append_cases}
use Rattle.std.proofs.lemmas.Option.{none-some, same_Some}
use Rattle.tup_readers.proofs.Entries.{none_in}
use Rattle.tup_closure.proofs.Asked.{taken}
use Rattle.tup_rule_diff.specs.Numbered.{numbered}
use Rattle.tup_rule_diff.proofs.Pushing.{behind}

module _ {X Y : Type 0} (f : ℕ → X → List Y) where
  -- one value more
  pub numbered_push : (n : ℕ) (xs : List X) (x : X) → numbered f n (xs ++ x ∷ []) ≡ numbered f n xs ++ f (n + length xs) x
  numbered_push n [] x = append-nil (f n x) ∙ ap (λ (k : ℕ). f k x) (let same : n ≡ n + 0 = omega arith in same)
  numbered_push n (first ∷ xs) x =
      ap (λ (l : List Y). f n first ++ l) (numbered_push (suc n) xs x)
      ∙ sym (append_assoc (f n first) (numbered f (suc n) xs) (f (suc n + length xs) x))
      ∙ ap (λ (k : ℕ). (f n first ++ numbered f (suc n) xs) ++ f k x) (let same : suc n + length xs ≡ n + suc (length xs) = omega arith in same)

  pub numbered_more : (xs : List X) (i : ℕ) (x d : X) → i < length xs → x ≡ get_or xs i d → numbered f 0 (take (i + 1) xs) ≡ numbered f 0 (take i xs) ++ f i x
  numbered_more xs i x d less is =
      ap (numbered f 0) (taken xs i x d less is) ∙ numbered_push 0 (take i xs) x
      ∙ ap (λ (k : ℕ). numbered f 0 (take i xs) ++ f k x) (let same : 0 + length (take i xs) ≡ i = omega (arith, length-take-le i xs (omega arith)) in same)

  -- a list that grows by what is had of each
  pub grown : (xs : List X) (i : ℕ) (x d : X) (start so_far new : List Y) → i < length xs → x ≡ get_or xs i d → so_far ≡ start ++ numbered f 0 (take i xs) → new ≡ so_far ++ f i x → new ≡ start ++ numbered f 0 (take (i + 1) xs)
  grown xs i x d start so_far new less here first second =
      behind start so_far new (numbered f 0 (take i xs)) (f i x) first second ∙ ap (λ (l : List Y). start ++ l) (sym (numbered_more xs i x d less here))

  -- all is had of one of the values
  pub had_of : (n : ℕ) (xs : List X) (y : Y) → Contains (numbered f n xs) y → (i : ℕ) × (x : X) × (slice_get xs i ≡ Some x) × Contains (f (n + i) x) y
  had_of n [] y h = absurd (none_in y h)
  had_of n (first ∷ xs) y h = elim (Contains-append_cases (f n first) (numbered f (suc n) xs) y h) [
    | inl here ↦ (0, first, refl, subst (λ (k : ℕ). Contains (f k first) y) (let same : n ≡ n + 0 = omega arith in same) here)
    | inr later ↦ behind_first (had_of (suc n) xs y later)
  ]
    where
      behind_first : (i : ℕ) × (x : X) × (slice_get xs i ≡ Some x) × Contains (f (suc n + i) x) y → (i : ℕ) × (x : X) × (slice_get (first ∷ xs) i ≡ Some x) × Contains (f (n + i) x) y
      behind_first (i, x, there, inside) = (suc i, x, there, subst (λ (k : ℕ). Contains (f k x) y) (let same : suc n + i ≡ n + suc i = omega arith in same) inside)

  pub is_had : (n : ℕ) (xs : List X) (i : ℕ) (x : X) (y : Y) → slice_get xs i ≡ Some x → Contains (f (n + i) x) y → Contains (numbered f n xs) y
  is_had n [] i x y here inside = absurd (none-some x here)
  is_had n (first ∷ xs) zero x y here inside =
      Contains-append_left (f n first) (numbered f (suc n) xs) y
      (subst (λ (z : X). Contains (f n z) y) (sym (same_Some first x here)) (subst (λ (k : ℕ). Contains (f k x) y) (let same : n + 0 ≡ n = omega arith in same) inside))
  is_had n (first ∷ xs) (suc i) x y here inside =
      Contains-append_right (f n first) (numbered f (suc n) xs) y
      (is_had (suc n) xs i x y here (subst (λ (k : ℕ). Contains (f k x) y) (let same : n + suc i ≡ suc n + i = omega arith in same) inside))

  pub is_had_at : (xs : List X) (i : ℕ) (x : X) (y : Y) → slice_get xs i ≡ Some x → Contains (f i x) y → Contains (numbered f 0 xs) y
  is_had_at xs i x y here inside = is_had 0 xs i x y here (subst (λ (k : ℕ). Contains (f k x) y) (let same : i ≡ 0 + i = omega arith in same) inside)

  pub had_at : (xs : List X) (y : Y) → Contains (numbered f 0 xs) y → (i : ℕ) × (x : X) × (slice_get xs i ≡ Some x) × Contains (f i x) y
  had_at xs y h = let found = had_of 0 xs y h in (found.0, found.1, found.2, subst (λ (k : ℕ). Contains (f k found.1) y) (let same : 0 + found.0 ≡ found.0 = omega arith in same) found.3)
