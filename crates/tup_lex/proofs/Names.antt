-- the last name by the place of the last slash
use Rattle.std.proofs.Common.{◌≡◌, ℕ, ◌+◌, ◌-◌, ◌<◌, true, false, not, eqb, List, length, take, drop, get_or, refl, ◌∙◌, arith, length-drop}
use Rattle.std.specs.List.{suffix_len}
use Rattle.std.proofs.lemmas.Bool.{not_from_false, false_from_ne_true}
use Rattle.std.proofs.lemmas.List.{take_all}
use Rattle.std.proofs.lemmas.List.Sums.{suffix_len_is}
use Rattle.bstr.specs.Find.{NoneAfter, Nowhere, Passes, is_byte}
use Rattle.tup_lex.specs.Word.{last_name}

not_slash : (text : List ℕ) (k : ℕ) → ¬ (Passes (is_byte 47) text k) → not (eqb (get_or text k 0) 47) ≡ true
not_slash text k h = not_from_false _ (false_from_ne_true _ h)

pub last_name-after : (text : List ℕ) (slash : ℕ) → NoneAfter (Passes (is_byte 47) text) 0 (length text) slash × Passes (is_byte 47) text slash → take (length text - (slash + 1)) (drop (slash + 1) text) ≡ last_name text
last_name-after text slash h =
    let within : slash < length text = h.0.high in
    let there : eqb (get_or text slash 0) 47 ≡ true = h.1 in
    let at_slash : not (eqb (get_or text (slash + 1 - 1) 0) 47) ≡ false = let back : slash + 1 - 1 ≡ slash = omega arith in rw (back, there) refl in
    let s : suffix_len (λ b. not (eqb b 47)) text ≡ length text - (slash + 1) =
    suffix_len_is (λ b. not (eqb b 47)) text (slash + 1) 0 (omega arith) (λ k low high. not_slash text k (h.0.after k low high)) (λ _. at_slash) in
    let back : length text - (length text - (slash + 1)) ≡ slash + 1 = omega arith in
    let len : length (drop (slash + 1) text) ≡ length text - (slash + 1) = length-drop (slash + 1) text in
    take_all (length text - (slash + 1)) (drop (slash + 1) text) (omega arith) ∙ rw (s, back) refl

pub last_name-whole : (text : List ℕ) → Nowhere (Passes (is_byte 47) text) 0 (length text) → text ≡ last_name text
last_name-whole text h =
    let s : suffix_len (λ b. not (eqb b 47)) text ≡ length text - 0 = suffix_len_is (λ b. not (eqb b 47)) text 0 0 (omega arith) (λ k low high. not_slash text k (h k low high)) (λ l. absurd (omega arith)) in
    let none : length text - (length text - 0) ≡ 0 = omega arith in
    rw (s, none) refl
