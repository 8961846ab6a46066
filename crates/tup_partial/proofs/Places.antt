-- Numbers that are their own places.
use Rattle.std.proofs.Common.{◌≡◌, ℕ, ◌+◌, ◌<◌, List, [], ◌∷◌, ◌++◌, length, get_or, sym, ap, ◌∙◌, inl, inr, arith}
use Rattle.std.specs.Prelude.{Contains}
use Rattle.std.proofs.lemmas.Bool.{cases_lt}
use Rattle.std.proofs.lemmas.List.{get_or_append_left, get_or_default, get_or_push, length_push}
use Rattle.std.proofs.lemmas.Map.Keys.{sorted_from_strictly_increasing}
use Rattle.tup_closure.specs.Steps.{IsListOf}

-- so many numbers, each at its own place
pub record ArePlaces (count : ℕ) (numbers : List ℕ) : Type 0 where
  pub many : length numbers ≡ count
  pub each : (at : ℕ) → at < count → get_or numbers at 0 ≡ at

pub one_place_more : (count : ℕ) (numbers : List ℕ) → ArePlaces count numbers → ArePlaces (count + 1) (numbers ++ count ∷ [])
one_place_more count numbers are = record {
  many = length_push numbers count ∙ ap (λ n. n + 1) are.many;
  each = λ at less. elim (cases_lt at count) [
    | inl before ↦ get_or_append_left numbers (count ∷ []) 0 at (omega (arith, before, are.many)) ∙ are.each at before
    | inr last ↦ let same : count ≡ at = omega (arith, less, last) in get_or_push numbers count 0 at (are.many ∙ same) ∙ same
  ];
}

-- they are all below their number
pub places_listed : (count : ℕ) (numbers : List ℕ) → ArePlaces count numbers → IsListOf (λ number. number < count) numbers
places_listed count numbers are = record {
  ascending = sorted_from_strictly_increasing numbers rises;
  members = λ n. (below n, λ less. (n, omega (arith, less, are.many), get_or_default numbers n n 0 (omega (arith, less, are.many)) ∙ are.each n less));
}
  where
    rises : (k : ℕ) → k + 1 < length numbers → get_or numbers k 0 < get_or numbers (k + 1) 0
    rises k less =
        let here = are.each k (omega (arith, less, are.many)) in
        let next = are.each (k + 1) (omega (arith, less, are.many)) in
        omega (arith, here, next)

    below : (n : ℕ) → Contains numbers n → n < count
    below n (k, less, is) =
        let here = are.each k (omega (arith, less, are.many)) in
        let same = get_or_default numbers k n 0 less ∙ here in
        omega (arith, less, are.many, sym is ∙ same)
