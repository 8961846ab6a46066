-- Going over some ascending numbers in place of all below a count, where those left out change nothing.
use Rattle.std.proofs.Common.{◌≡◌, ℕ, zero, suc, ◌+◌, ◌<◌, ◌≤◌, List, length, get_or, inl, inr, sym, ◌∙◌, subst, arith}
use Rattle.std.specs.Prelude.{Contains}
use Rattle.std.specs.List.Sorted.{IsStrictlySortedBy}
use Rattle.std.specs.Ordering.{nat_cmp}
use Rattle.std.proofs.lemmas.Bool.{cases_eq, cases_lt}
use Rattle.std.proofs.lemmas.List.{get_or_default, get_or_past}
use Rattle.std.proofs.lemmas.List.Elements.{Contains-get_or}
use Rattle.std.proofs.lemmas.Map.Keys.{below_from_sorted}
use Rattle.tup_path.specs.Name.{Names}
use Rattle.tup_rule.specs.declared.rule.Rule.{Rule}
use Rattle.tup_core.specs.Sound.{AreNamersOf}

-- what holds at a number holds at a later one, if those from the one to the other change nothing
over : (P : ℕ → Type 0) (a b : ℕ) → a ≤ b → ((k : ℕ) → a ≤ k → k < b → P k → P (k + 1)) → P a → P b
over P a zero le step start = subst P (omega (arith, le)) start
over P a (suc b) le step start = elim (cases_eq a (suc b)) [
  | inl same ↦ subst P same start
  | inr apart ↦
      let before : a ≤ b = omega (arith, le, apart) in
      let next : b + 1 ≡ suc b = omega arith in
      subst P next (step b before (omega arith) (over P a b before (λ k from below. step k from (omega (arith, below))) start))
]

module _ (near : List ℕ) (count : ℕ) (range : (at : ℕ) → Contains near at → at < count) (ascending : IsStrictlySortedBy nat_cmp near) where
  -- a number below the one at a place stands before it
  stands_before : (i k : ℕ) → k < get_or near i count → (in_near : Contains near k) → in_near.0 < i
  stands_before i k below (j, within, is) = elim (cases_lt j i) [
    | inl before ↦ before
    | inr after ↦ elim (cases_eq i j) [
      | inl same ↦
          let here : get_or near i count ≡ k = get_or_default near i count k (omega (arith, same, within)) ∙ subst (λ (n : ℕ). get_or near n k ≡ k) (sym same) is in
          absurd (omega (arith, here, below))
      | inr apart ↦
          let less : get_or near i k < get_or near j k = below_from_sorted near i j k ascending (omega (arith, after, apart)) within in
          let here : get_or near i count ≡ get_or near i k = get_or_default near i count k (omega (arith, after, within)) in
          absurd (omega (arith, less, here, below, is))
    ]
  ]

  -- and one above it behind it
  stands_behind : (i k : ℕ) → i < length near → get_or near i 0 < k → (in_near : Contains near k) → i < in_near.0
  stands_behind i k inside above (j, within, is) = elim (cases_lt i j) [
    | inl behind ↦ behind
    | inr before ↦ elim (cases_eq i j) [
      | inl same ↦
          let here : get_or near i 0 ≡ k = get_or_default near i 0 k inside ∙ subst (λ (n : ℕ). get_or near n k ≡ k) (sym same) is in
          absurd (omega (arith, here, above))
      | inr apart ↦
          let less : get_or near j k < get_or near i k = below_from_sorted near j i k ascending (omega (arith, before, apart)) inside in
          let here : get_or near i 0 ≡ get_or near i k = get_or_default near i 0 k inside in
          absurd (omega (arith, less, here, above, is))
    ]
  ]

  -- the number at a place is below the count
  pub next_within : (i : ℕ) → i < length near → get_or near i 0 < count
  next_within i inside = range (get_or near i 0) (Contains-get_or near i 0 inside)

  -- and at the end of the list the count is reached
  at_most : (i : ℕ) → get_or near i count ≤ count
  at_most i = elim (cases_lt i (length near)) [
    | inl inside ↦
        let here : get_or near i count ≡ get_or near i 0 = get_or_default near i count 0 inside in
        let within = next_within i inside in
        omega (arith, here, within)
    | inr past ↦ let here : get_or near i count ≡ count = get_or_past near i count past in omega (arith, here)
  ]

  module _ (P : ℕ → Type 0) (idle : (k : ℕ) → k < count → (Contains near k → ⊥) → P k → P (k + 1)) where
    pub begins : P 0 → P (get_or near 0 count)
    begins start =
        over P 0 (get_or near 0 count) (omega arith)
        (λ k _ below. let top = at_most 0 in idle k (omega (arith, below, top)) (λ in_near. let before = stands_before 0 k below in_near in omega (arith, before)))
        start

    pub goes_on : (i : ℕ) → i < length near → P (get_or near i 0 + 1) → P (get_or near (i + 1) count)
    goes_on i inside start =
        over P (get_or near i 0 + 1) (get_or near (i + 1) count) later
        (λ k from below. let top = at_most (i + 1) in idle k (omega (arith, below, top))
        (λ in_near. let before = stands_before (i + 1) k below in_near in let behind = stands_behind i k inside (omega (arith, from)) in_near in omega (arith, before, behind)))
        start
      where
        later : get_or near i 0 + 1 ≤ get_or near (i + 1) count
        later = elim (cases_lt (i + 1) (length near)) [
          | inl more ↦
              let less : get_or near i 0 < get_or near (i + 1) 0 = below_from_sorted near i (i + 1) 0 ascending (omega arith) more in
              let here : get_or near (i + 1) count ≡ get_or near (i + 1) 0 = get_or_default near (i + 1) count 0 more in
              omega (arith, less, here)
          | inr past ↦
              let here : get_or near (i + 1) count ≡ count = get_or_past near (i + 1) count past in
              let within = next_within i inside in
              omega (arith, here, within)
        ]

-- rules that name all paths of a kind name those of a narrower one
pub namers_of : (rules : List Rule) (IsOne IsOther : Names → Type 0) (near : List ℕ) → ((path : Names) → IsOther path → IsOne path) → AreNamersOf rules IsOne near → AreNamersOf rules IsOther near
namers_of rules IsOne IsOther near narrower are = record {
  each = λ at rule path one. are.each at rule path (narrower path one);
  range = are.range;
  ascending = are.ascending;
}
