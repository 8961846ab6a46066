-- The places of all rules, one after another.
use Rattle.std.proofs.Common.{◌≡◌, ℕ, ◌+◌, ◌<◌, List, [], ◌∷◌, ◌++◌, length, get_or, refl, sym, ap, ◌∙◌, subst, inl, inr, arith}
use Rattle.std.specs.Prelude.{Contains}
use Rattle.std.proofs.lemmas.Bool.{cases_lt}
use Rattle.std.proofs.lemmas.List.{length_push, get_or_push, get_or_append_left, get_or_default}
use Rattle.std.proofs.lemmas.Map.Keys.{sorted_from_strictly_increasing}
use Rattle.std.proofs.lemmas.Option.{slice_get_within}
use Rattle.tup_path.specs.Name.{Names}
use Rattle.tup_rule.specs.declared.rule.Rule.{Rule}
use Rattle.tup_core.specs.Sound.{AreNamersOf}
use Rattle.tup_core_rows.specs.Places.{AreBelow}

pub places_more : (count : ℕ) (places : List ℕ) → AreBelow count places → AreBelow (count + 1) (places ++ count ∷ [])
places_more count places are = record {
  many = length_push places count ∙ ap (λ (n : ℕ). n + 1) are.many;
  each = λ k below. elim (cases_lt k count) [
    | inl before ↦ get_or_append_left places (count ∷ []) 0 k (subst (λ (n : ℕ). k < n) (sym are.many) before) ∙ are.each k before
    | inr after ↦
        let last : k ≡ count = omega (arith, below, after) in
        get_or_push places count 0 k (are.many ∙ sym last) ∙ sym last
  ];
}

pub all_are_near : (rules : List Rule) (places : List ℕ) → AreBelow (length rules) places → (IsOne : Names → Type 0) → AreNamersOf rules IsOne places
all_are_near rules places are IsOne = record {
  each = λ at rule path one here names.
      let within : at < length rules = slice_get_within rules at rule here in
      let inside : at < length places = subst (λ (n : ℕ). at < n) (sym are.many) within in
      (at, inside, get_or_default places at at 0 inside ∙ are.each at within);
  range = λ at (k, inside, is).
      let within : k < length rules = subst (λ (n : ℕ). k < n) are.many inside in
      let same : k ≡ at = sym (are.each k within) ∙ get_or_default places k 0 at inside ∙ is in
      omega (arith, within, same);
  ascending = sorted_from_strictly_increasing places (λ k below.
      let next : k + 1 < length rules = subst (λ (n : ℕ). k + 1 < n) are.many below in
      let here = are.each k (omega (arith, next)) in
      let there = are.each (k + 1) next in
      omega (arith, here, there));
}
