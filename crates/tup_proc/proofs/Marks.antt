-- The bytes that stand between the fields of a line stand in none of its numbers and digests.
use Rattle.std.proofs.Common.{◌≡◌, ℕ, suc, ◌+◌, ◌/◌, ◌%◌, ◌<◌, ◌≤◌, ◌^◌, true, false, eqb, List, [], ◌∷◌, ◌++◌, length, take, drop, get_or, cond, ltb, Some, None, refl, ap, sym, subst, ◌∙◌, length-take, length-drop, get_or-take, ◌-◌, arith}
use Rattle.std.proofs.lemmas.Bool.{ne_eqb}
use Rattle.std.proofs.lemmas.Bool.Decides.{nat_tests}
use Rattle.std.proofs.lemmas.Bool.{ltb-false}
use Rattle.std.proofs.lemmas.Fmt.{decimal_by_steps}
use Rattle.std.proofs.lemmas.Grind.{get_or_default_zero}
use Rattle.std.proofs.lemmas.List.{take-append-drop, drop_more, take_all}
use Rattle.std.proofs.lemmas.List.Quantifiers.{position-Some}
use Rattle.std.proofs.lemmas.List.Sums.{fails_before_first}
use Rattle.std.specs.List.{position, position_or_len}
use Rattle.std.proofs.lemmas.List.Elements.{All-nil, All-cons, All-head, All-tail, All-append}
use Rattle.std.specs.Fmt.{decimal}
use Rattle.hex.specs.Hex.{IsBytes, hex_digit_value, encode_with, encode_lower}
use Rattle.hex.proofs.HexLemmas.{IsDigits-lower_digits}
use Rattle.tup_proc.specs.Reading.{Lacks, IsCut, IsUncut}
use Rattle.tup_stamp.specs.Hex.{hex_text, digit}

-- lists that begin otherwise are others
pub other_first : (a b : ℕ) (more rest : List ℕ) → eqb a b ≡ false → a ∷ more ≡ b ∷ rest → ⊥
other_first a b more rest apart e = let same : a ≡ b = cc in absurd (grind (arith, nat_tests))

-- two texts that end at their first mark are the same, and so is what follows
pub cut_at : (mark : ℕ) (one two more rest : List ℕ) → Lacks mark one → Lacks mark two → one ++ mark ∷ more ≡ two ++ mark ∷ rest → (one ≡ two) × (more ≡ rest)
cut_at mark [] [] more rest l r e = (refl, cc)
cut_at mark [] (b ∷ two) more rest l r e =
    let same : mark ≡ b = cc in
    let here : eqb b mark ≡ false = All-head (λ b. eqb b mark ≡ false) b two r in
    absurd (grind (arith, nat_tests))
cut_at mark (a ∷ one) [] more rest l r e =
    let same : a ≡ mark = cc in
    let here : eqb a mark ≡ false = All-head (λ b. eqb b mark ≡ false) a one l in
    absurd (grind (arith, nat_tests))
cut_at mark (a ∷ one) (b ∷ two) more rest l r e =
    let same : a ≡ b = cc in
    let behind : one ++ mark ∷ more ≡ two ++ mark ∷ rest = cc in
    let both = cut_at mark one two more rest (All-tail (λ b. eqb b mark ≡ false) a one l) (All-tail (λ b. eqb b mark ≡ false) b two r) behind in
    (ap (λ x. x ∷ one) same ∙ ap (λ more. b ∷ more) both.0, both.1)

-- ---- cuts
early : (mark : ℕ) (bytes : List ℕ) (end k d : ℕ) → end < length bytes → k < length (take end bytes) → eqb (get_or bytes k 0) mark ≡ false → eqb (get_or (take end bytes) k d) mark ≡ false
early mark bytes end k d l h e =
    let inner : k < end = omega (arith, length-take end bytes) in
    ap (λ b. eqb b mark) (get_or-take end bytes k d inner ∙ get_or_default_zero bytes k d (omega arith)) ∙ e

cut_is : (mark : ℕ) (bytes : List ℕ) (end : ℕ) → position (λ b. eqb b mark) bytes ≡ Some end → IsCut mark bytes (take end bytes) (drop (end + 1) bytes)
cut_is mark bytes end e =
    let at = position-Some (λ b. eqb b mark) bytes end 0 e in
    let here : get_or bytes end 0 ≡ mark = let t = at.1 in grind (arith, nat_tests) in
    record {
      is = sym (take-append-drop end bytes) ∙ ap (λ more. take end bytes ++ more) (drop_more bytes end 0 at.0 ∙ ap (λ b. b ∷ drop (end + 1) bytes) here);
      first = λ k d l. early mark bytes end k d at.0 l (at.2 k (omega (arith, length-take end bytes)));
    }

-- a slice behind the mark goes to the end of the bytes
pub cut_slice : (mark : ℕ) (bytes : List ℕ) (end : ℕ) → position (λ b. eqb b mark) bytes ≡ Some end → IsCut mark bytes (take end bytes) (take (length bytes - (end + 1)) (drop (end + 1) bytes))
cut_slice mark bytes end e =
    subst (IsCut mark bytes (take end bytes)) (sym (take_all (length bytes - (end + 1)) (drop (end + 1) bytes) (omega (arith, length-drop (end + 1) bytes)))) (cut_is mark bytes end e)

before_end : (mark : ℕ) (bytes : List ℕ) (k : ℕ) → position (λ b. eqb b mark) bytes ≡ None → k < length bytes → k < position_or_len (λ b. eqb b mark) bytes
before_end mark bytes k e l =
    (elim (ltb (position_or_len (λ b. eqb b mark) bytes) (length bytes)) as (λ t. ltb (position_or_len (λ b. eqb b mark) bytes) (length bytes) ≡ t → cond t (Some (position_or_len (λ b. eqb b mark) bytes)) None ≡ None → k < position_or_len (λ b. eqb b mark) bytes) [
      | true ↦ λ t n. absurd (cc)
      | false ↦ λ t n. omega (arith, ltb-false (position_or_len (λ b. eqb b mark) bytes) (length bytes) t)
    ]) refl e

pub uncut_is : (mark : ℕ) (bytes : List ℕ) → position (λ b. eqb b mark) bytes ≡ None → IsUncut mark bytes
uncut_is mark bytes none front back e =
    let lacks : Lacks mark bytes = λ k d l. fails_before_first (λ b. eqb b mark) bytes k d (before_end mark bytes k none l) in
    let here : Lacks mark (mark ∷ back) = All-append_right front back (subst (Lacks mark) e lacks) in
    let itself : eqb mark mark ≡ false = All-head (λ b. eqb b mark ≡ false) mark back here in
    absurd (grind (arith, nat_tests))
  where
    All-append_right : (front back : List ℕ) → Lacks mark (front ++ mark ∷ back) → Lacks mark (mark ∷ back)
    All-append_right [] back all = all
    All-append_right (a ∷ front) back all = All-append_right front back (All-tail (λ b. eqb b mark ≡ false) a (front ++ mark ∷ back) all)

-- ---- numbers
pub decimal_lacks : (mark n : ℕ) → mark < 48 → n < 2 ^ 64 → Lacks mark (decimal n)
decimal_lacks mark n low small = decimal_by_steps (λ n ds. Lacks mark ds) one more n small
  where
    is_digit : (d : ℕ) → eqb (48 + d) mark ≡ false
    is_digit d = ne_eqb (48 + d) mark (λ same. omega (arith, same))

    one : (n : ℕ) → n < 10 → Lacks mark ((48 + n) ∷ [])
    one n small = All-cons (λ b. eqb b mark ≡ false) (48 + n) [] (is_digit n) (All-nil (λ b. eqb b mark ≡ false))

    more : (n : ℕ) (ds : List ℕ) → 10 ≤ n → Lacks mark ds → Lacks mark (ds ++ ((48 + n % 10) ∷ []))
    more n ds long lacks = All-append (λ b. eqb b mark ≡ false) ds ((48 + n % 10) ∷ []) lacks (All-cons (λ b. eqb b mark ≡ false) (48 + n % 10) [] (is_digit (n % 10)) (All-nil (λ b. eqb b mark ≡ false)))

-- ---- digests
digit_lacks : (mark d : ℕ) → d < 16 → hex_digit_value mark ≡ None → eqb (digit d) mark ≡ false
digit_lacks mark d low none = ne_eqb (digit d) mark (λ same.
    let reads : hex_digit_value (digit d) ≡ Some d = IsDigits-lower_digits d low in
    let bad : Some d ≡ None = sym reads ∙ ap hex_digit_value same ∙ none in absurd (cc))

pub hex_lacks : (mark : ℕ) (bytes : List ℕ) → IsBytes bytes → hex_digit_value mark ≡ None → Lacks mark (hex_text bytes)
hex_lacks mark [] is none = All-nil (λ b. eqb b mark ≡ false)
hex_lacks mark (byte ∷ bytes) is none =
    let fits : byte < 256 = is 0 in
    All-cons (λ b. eqb b mark ≡ false) (digit (byte / 16)) (digit (byte % 16) ∷ hex_text bytes) (digit_lacks mark (byte / 16) (omega arith) none)
    (All-cons (λ b. eqb b mark ≡ false) (digit (byte % 16)) (hex_text bytes) (digit_lacks mark (byte % 16) (omega arith) none) (hex_lacks mark bytes (λ k. is (suc k)) none))

-- the kit's hex text is that of stamps
pub encode_lower-hex_text : (bytes : List ℕ) → encode_lower bytes ≡ hex_text bytes
unfolding encode_with
encode_lower-hex_text [] = refl
encode_lower-hex_text (byte ∷ bytes) = ap (λ rest. digit (byte / 16) ∷ digit (byte % 16) ∷ rest) (encode_lower-hex_text bytes)
