-- What each of some rules declares, one rule after another.
use Rattle.std.proofs.Common.{◌≡◌, ◌++◌, ◌∷◌, ◌⊎◌, ℕ, zero, suc, List, [], None, Some, length, refl, sym, ap, subst, ◌∙◌, inl, inr}
use Rattle.std.specs.Prelude.{slice_get}
use Rattle.tup_rule.specs.declared.rule.Rule.{Rule}
use Rattle.tup_access.specs.Inputs.{AreInputs, AreInputsOfAll}
use Rattle.tup_access.specs.declared.inputs.Inputs.{Inputs}

none_got : {A : Type 0} (x : A) → None ≡ Some x → ⊥
none_got x e = let no : None ≡ Some x = e in cc

same_got : {A : Type 0} (x y : A) → Some x ≡ Some y → x ≡ y
same_got x y e = cc

-- what stands at a place of a list with one more: it stood there, or it is the last one
got_push : {A : Type 0} (xs : List A) (x y : A) (at : ℕ) → slice_get (xs ++ x ∷ []) at ≡ Some y → (slice_get xs at ≡ Some y) ⊎ ((at ≡ length xs) × (x ≡ y))
got_push [] x y zero e = inr (refl, same_got x y e)
got_push [] x y (suc at) e = absurd (none_got y e)
got_push (first ∷ xs) x y zero e = inl e
got_push (first ∷ xs) x y (suc at) e = elim (got_push xs x y at e) [ inl before ↦ inl before | inr last ↦ inr (ap suc last.0, last.1) ]

-- of none
pub no_inputs : (rules : List Rule) (all : List Inputs) → all ≡ [] → AreInputsOfAll rules all
no_inputs rules all none at rule inputs here there = absurd (none_got inputs (ap (λ (l : List Inputs). slice_get l at) (sym none) ∙ there))

-- of one more
pub inputs_more : (rules : List Rule) (all : List Inputs) (at : ℕ) (rule : Rule) (inputs : Inputs) → length all ≡ at → AreInputsOfAll rules all → slice_get rules at ≡ Some rule → AreInputs rule inputs → AreInputsOfAll rules (all ++ inputs ∷ [])
inputs_more rules all at rule inputs long each here are k other there got given = elim (got_push all inputs there k given) [
  | inl before ↦ each k other there got before
  | inr last ↦
      let placed : slice_get rules at ≡ Some other = subst (λ (n : ℕ). slice_get rules n ≡ Some other) (last.0 ∙ long) got in
      subst (AreInputs other) last.1 (subst (λ (r : Rule). AreInputs r inputs) (same_got rule other (sym here ∙ placed)) are)
]
