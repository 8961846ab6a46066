-- where a name begins, by the place of its mark
use Rattle.std.proofs.Common.{◌≡◌, ℕ, zero, suc, ◌+◌, ◌<◌, Bool, true, false, eqb, ◌&&◌, if◌then◌else◌, List, [], ◌∷◌, length, get_or, take, drop, Option, Some, None, IsUtf8, refl, sym, ap, ◌∙◌, arith}
use Rattle.std.specs.Option.{option_map}
use Rattle.std.proofs.lemmas.Bool.Decides.{nat_tests}
use Rattle.std.proofs.lemmas.Str.{IsCharBoundary-after_ascii}
use Rattle.std.specs.Str.{IsCharBoundary}
use Rattle.tup_lex.specs.Word.{begins_with}
use Rattle.tup_vars.specs.Segments.{opened, opens_at, is_mark}

-- no name begins before a place
abbrev pub NoneBefore : List ℕ → ℕ → Type 0
NoneBefore text end = (k : ℕ) → k < end → opens_at text k ≡ false

begins : (rest : List ℕ) → begins_with 40 rest ≡ eqb (get_or rest 0 0) 40
begins [] = refl
begins (byte ∷ rest) = refl

abbrev pub Opened : Type 0
Opened = List ℕ × ℕ × List ℕ

-- what is found behind a byte
abbrev pub further : ℕ → Option Opened → Option Opened
further byte found = option_map (λ (front, mark, name). (byte ∷ front, mark, name)) found

first : (byte : ℕ) (rest : List ℕ) → (is_mark byte && begins_with 40 rest) ≡ opens_at (byte ∷ rest) 0
first byte rest = ap (λ b. is_mark byte && b) (begins rest)

opened-here : (byte : ℕ) (rest : List ℕ) → opens_at (byte ∷ rest) 0 ≡ true → opened (byte ∷ rest) ≡ Some ([], byte, drop 1 rest)
opened-here byte rest e = ap (λ b. if b then Some ([], byte, drop 1 rest) else further byte (opened rest)) (first byte rest ∙ e)

opened-later : (byte : ℕ) (rest : List ℕ) → opens_at (byte ∷ rest) 0 ≡ false → opened (byte ∷ rest) ≡ further byte (opened rest)
opened-later byte rest e = ap (λ b. if b then Some ([], byte, drop 1 rest) else further byte (opened rest)) (first byte rest ∙ e)

later : (byte : ℕ) (rest : List ℕ) (end : ℕ) → NoneBefore (byte ∷ rest) (suc end) → NoneBefore rest end
later byte rest end none k h =
    let next : suc k + 1 ≡ suc (k + 1) = omega arith in
    let here = none (suc k) (omega arith) in
    ap (λ n. is_mark (get_or rest k 0) && eqb (get_or (byte ∷ rest) n 0) 40) (sym next) ∙ here

pub opened-at : (text : List ℕ) (at : ℕ) → opens_at text at ≡ true → NoneBefore text at → at + 1 < length text → opened text ≡ Some (take at text, get_or text at 0, drop (at + 2) text)
opened-at [] at is none h = absurd (omega arith)
opened-at (byte ∷ rest) zero is none h = opened-here byte rest is
opened-at (byte ∷ rest) (suc at) is none h =
    let next : suc at + 1 ≡ suc (at + 1) = omega arith in
    let next2 : suc at + 2 ≡ suc (at + 2) = omega arith in
    let there : opens_at rest at ≡ true = ap (λ n. is_mark (get_or rest at 0) && eqb (get_or (byte ∷ rest) n 0) 40) (sym next) ∙ is in
    opened-later byte rest (none 0 (omega arith)) ∙ ap (further byte) (opened-at rest at there (later byte rest at none) (omega arith))
    ∙ ap (λ n. Some (byte ∷ take at rest, get_or rest at 0, drop n (byte ∷ rest))) (sym next2)

pub opened-none : (text : List ℕ) → ((k : ℕ) → k + 1 < length text → opens_at text k ≡ false) → opened text ≡ None
opened-none [] none = refl
opened-none (byte ∷ []) none = opened-later byte [] (by_mark (is_mark byte))
  where
    by_mark : (b : Bool) → (b && false) ≡ false
    by_mark true = refl
    by_mark false = refl
opened-none (byte ∷ next ∷ rest) none =
    opened-later byte (next ∷ rest) (none 0 (omega arith))
    ∙ ap (further byte) (opened-none (next ∷ rest) (λ k h.
    let after : suc k + 1 ≡ suc (k + 1) = omega arith in
    ap (λ n. is_mark (get_or (next ∷ rest) k 0) && eqb (get_or (byte ∷ next ∷ rest) n 0) 40) (sym after) ∙ none (suc k) (omega arith)))

-- a text may be cut behind the bracket of a name
pub name-IsCharBoundary : (text : List ℕ) (at : ℕ) → IsUtf8 text → at + 1 < length text → opens_at text at ≡ true → IsCharBoundary text (at + 2)
name-IsCharBoundary text at utf8 h is =
    let next : at + 1 + 1 ≡ at + 2 = omega arith in
    let bracket : get_or text (at + 1) 0 < 128 = by_test (is_mark (get_or text at 0)) (eqb (get_or text (at + 1) 0) 40) refl is in
    rw next at (IsCharBoundary-after_ascii text (at + 1) utf8 h bracket)
  where
    by_test : (a b : Bool) → eqb (get_or text (at + 1) 0) 40 ≡ b → (a && b) ≡ true → get_or text (at + 1) 0 < 128
    by_test true true e h = grind (arith, nat_tests)
    by_test true false e h = absurd (let f : false ≡ true = h in cc)
    by_test false b e h = absurd (let f : false ≡ true = h in cc)
