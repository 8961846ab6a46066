-- Lists in strict order with the same members are the same.
use Rattle.std.specs.Prelude.{◌≡◌, List, [], ◌∷◌, Contains}
use Rattle.std.proofs.Common.{◌⊎◌, refl, sym, ap, subst, ◌∙◌, inl, inr}
use Rattle.std.specs.Ordering.{ordering_reverse}
use Rattle.std.specs.List.Sorted.{IsStrictlySortedBy}
use Rattle.std.specs.declared.cmp.Ordering.{Ordering}
use Rattle.std.specs.declared.cmp.Ordering.TheVariants.{Less}
use Rattle.std.specs.Cmp.{IsTotalOrder}
use Rattle.std.proofs.lemmas.List.Elements.{All-contains, All-from_recursion}
use Rattle.std.proofs.lemmas.Map.Keys.{sorted_head, sorted_tail}
use Rattle.tup_readers.proofs.Entries.{in_front, behind_front, front_or_behind, none_in}

module _ {K : Type 0} (R : K → K → Ordering) (o : IsTotalOrder R) where
  not_less : Less ≡ ordering_reverse Less → ⊥
  not_less e = cc

  not_below_itself : (x : K) → R x x ≡ Less → ⊥
  not_below_itself x e = not_less (sym e ∙ o.antisymm x x ∙ ap ordering_reverse e)

  below : (k y : K) (ks : List K) → IsStrictlySortedBy R (k ∷ ks) → Contains ks y → R k y ≡ Less
  below k y ks up h = All-contains (λ (z : K). R k z ≡ Less) ks y (All-from_recursion (λ (z : K). R k z ≡ Less) ks (sorted_head R k ks up)) h

  same_head : (a b : K) (xs ys : List K) → IsStrictlySortedBy R (a ∷ xs) → IsStrictlySortedBy R (b ∷ ys) → (a ≡ b) ⊎ Contains xs b → (b ≡ a) ⊎ Contains ys a → a ≡ b
  same_head a b xs ys up vp (inl e) there = e
  same_head a b xs ys up vp (inr h) (inl e) = sym e
  same_head a b xs ys up vp (inr h) (inr j) = absurd (not_below_itself a (o.trans a b a (below a b xs up h) (below b a ys vp j)))

  rest_in : (a b : K) (xs ys : List K) → a ≡ b → IsStrictlySortedBy R (a ∷ xs) → ((x : K) → Contains (a ∷ xs) x → Contains (b ∷ ys) x) → (x : K) → Contains xs x → Contains ys x
  rest_in a b xs ys e up inside x h = elim (front_or_behind b x ys (inside x (behind_front a x xs h))) [
    | inl same ↦ absurd (not_below_itself a (subst (λ (y : K). R a y ≡ Less) (sym (e ∙ same)) (below a x xs up h)))
    | inr later ↦ later
  ]

  pub same_members : (xs ys : List K) → IsStrictlySortedBy R xs → IsStrictlySortedBy R ys → ((x : K) → Contains xs x → Contains ys x) → ((x : K) → Contains ys x → Contains xs x) → xs ≡ ys
  same_members [] [] up vp to from = refl
  same_members [] (b ∷ ys) up vp to from = absurd (none_in b (from b (in_front b ys)))
  same_members (a ∷ xs) [] up vp to from = absurd (none_in a (to a (in_front a xs)))
  same_members (a ∷ xs) (b ∷ ys) up vp to from =
      let e = same_head a b xs ys up vp (front_or_behind a b xs (from b (in_front b ys))) (front_or_behind b a ys (to a (in_front a xs))) in
      let rest = same_members xs ys (sorted_tail R a xs up) (sorted_tail R b ys vp) (rest_in a b xs ys e up to) (rest_in b a ys xs (sym e) vp from) in
      λ i. e i ∷ rest i
