-- A byte at the end of a text.
use Rattle.std.proofs.Common.{◌≡◌, ◌≢◌, ℕ, ◌+◌, ◌-◌, ◌<◌, Bool, true, false, cond, eqb, List, [], ◌∷◌, ◌++◌, length, take, get_or, Option, Some, None, MatchOption, option_map, refl, sym, ap, ◌∙◌, arith, eq-eqb}
use Rattle.std.specs.Borrow.{Bor}
use Rattle.std.proofs.lemmas.List.{take_all, take_at, take_more, length_push, get_or_push}
use Rattle.std.proofs.lemmas.Bool.Decides.{nat_tests}
use Rattle.tup_rule_line.specs.Last.{before_last}

some : (byte : ℕ) (front : List ℕ) → before_last byte (front ++ byte ∷ []) ≡ Some front
some byte front =
    let text = front ++ byte ∷ [] in
    let n : length text - 1 ≡ length front = omega (arith, length_push front byte) in
    let at : get_or text (length text - 1) 0 ≡ byte = get_or_push front byte 0 (length text - 1) (sym n) in
    let is : eqb (get_or text (length text - 1) 0) byte ≡ true = eq-eqb (get_or text (length text - 1) 0) byte at in
    ap (λ b. cond b (Some (take (length text - 1) text)) None) is ∙ ap Some (take_at front (byte ∷ []) (length text - 1) (sym n))

none : (byte : ℕ) (text : List ℕ) → 0 < byte → ((front : List ℕ) → text ≢ front ++ byte ∷ []) → before_last byte text ≡ None
none byte text more ends_not = by (eqb (get_or text (length text - 1) 0) byte) refl
  where
    ends : eqb (get_or text (length text - 1) 0) byte ≡ true → text ≡ take (length text - 1) text ++ byte ∷ []
    ends e =
        let same : get_or text (length text - 1) 0 ≡ byte = grind (arith, nat_tests) in
        let some : 0 < length text = long text (λ (empty : text ≡ []). let zero : get_or text (length text - 1) 0 ≡ 0 = ap (λ t. get_or t (length t - 1) 0) empty in omega arith) in
        let n : length text - 1 + 1 ≡ length text = omega arith in
        sym (take_all (length text - 1 + 1) text (omega arith)) ∙ take_more text (length text - 1) 0 (omega arith) ∙ ap (λ b. take (length text - 1) text ++ b ∷ []) same
      where
        long : (t : List ℕ) → (t ≡ [] → ⊥) → 0 < length t
        long [] h = absurd (h refl)
        long (b ∷ bs) h = omega arith

    by : (b : Bool) → eqb (get_or text (length text - 1) 0) byte ≡ b → cond b (Some (take (length text - 1) text)) None ≡ None
    by true e = absurd (ends_not (take (length text - 1) text) (ends e))
    by false e = refl

pub before_last-is : (byte : ℕ) (text : List ℕ) (found : Option (Bor (List ℕ))) → 0 < byte → MatchOption found ((front : List ℕ) → text ≢ front ++ byte ∷ []) (λ x. text ≡ x.now ++ byte ∷ []) → option_map (λ x. x.now) found ≡ before_last byte text
before_last-is byte text None more h = sym (none byte text more h)
before_last-is byte text (Some x) more h = sym (ap (before_last byte) h ∙ some byte x.now)
