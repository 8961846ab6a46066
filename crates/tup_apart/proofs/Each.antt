-- What holds of the rules so far.
use Rattle.std.proofs.Common.{◌≡◌, ℕ, ◌+◌, ◌<◌, ◌≤◌, List, Some, length, get_or, refl, sym, ◌∙◌, subst, inl, inr, arith}
use Rattle.std.specs.Prelude.{slice_get}
use Rattle.std.proofs.lemmas.Bool.{cases_lt}
use Rattle.std.proofs.lemmas.Option.{same_Some, slice_get_read, slice_get_within}
use Rattle.tup_rule.specs.declared.rule.Rule.{Rule}

abbrev pub EachUpTo : (ℕ → Rule → Type 0) → List Rule → ℕ → Type 0
EachUpTo P rules count = (at : ℕ) (rule : Rule) → at < count → slice_get rules at ≡ Some rule → P at rule

module _ (P : ℕ → Rule → Type 0) (rules : List Rule) (count : ℕ) where
  module _ (rule : Rule) (within : count < length rules) (is : rule ≡ get_or rules count rule) where
    pub its_place : slice_get rules count ≡ Some rule
    its_place = slice_get_read rules (length rules) count rule refl within is

    pub each_more : P count rule → EachUpTo P rules count → EachUpTo P rules (count + 1)
    each_more one before at other less here =
        elim (cases_lt at count) [
          | inl earlier ↦ before at other earlier here
          | inr not_earlier ↦
              let same : count ≡ at = omega (arith, less, not_earlier) in
              subst (λ (n : ℕ). P n other) same (subst (P count) (same_Some rule other (sym its_place ∙ subst (λ (n : ℕ). slice_get rules n ≡ Some other) (sym same) here)) one)
        ]

  pub each_of_all : length rules ≤ count → EachUpTo P rules count → (at : ℕ) (rule : Rule) → slice_get rules at ≡ Some rule → P at rule
  each_of_all end each at rule here = let within = slice_get_within rules at rule here in each at rule (omega (arith, within, end)) here
