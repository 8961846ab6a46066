-- A pattern is read to the symbols that it spells, and to no others.
use Rattle.std.proofs.Common.{◌≡◌, ◌≢◌, ◌↔◌, ℕ, zero, suc, ◌+◌, Bool, true, false, List, [], ◌∷◌, ◌++◌, length, take, drop, All, Option, Some, None, Ok, Err, Result, if◌then◌else◌, eqb, refl, sym, ap, ◌∙◌, subst, add-one, append_assoc, length-append, take-append-drop, arith}
use Rattle.std.proofs.Math.Seq.{take-append_seam, take-append-add, drop-append_seam}
use Rattle.std.proofs.lemmas.Bool.{eqb-true, eqb-false, ne_eqb}
use Rattle.std.proofs.lemmas.List.Elements.{All-nil, All-cons, All-head, All-tail}
use Rattle.std.specs.List.{position_from}
use Rattle.std.specs.Option.{option_map}
use Rattle.tup_lex.specs.Word.{begins_with}
use Rattle.tup_glob.specs.declared.fault.GlobFault.{GlobFault}
use Rattle.tup_glob.specs.declared.fault.GlobFault.TheVariants.{OpenBracket}
use Rattle.tup_glob.specs.declared.symbol.Symbol.{Symbol}
use Rattle.tup_glob.specs.declared.symbol.Symbol.TheVariants.{Char, Run, One, Set}
use Rattle.tup_glob.specs.declared.symbol.Range.{Range}
use Rattle.tup_glob.specs.Read.{members, inner_len, set_of, longer, set_behind, symbol_of, onto, symbols_behind}
use Rattle.tup_glob.specs.Spelling.{IsInner, caret, Writes, Spells}
use Rattle.tup_glob.proofs.Reading.{symbols_step}

abbrev is_bracket : ℕ → Bool
is_bracket char = eqb char 93

abbrev NoBracket : List ℕ → Type 0
NoBracket text = All (λ char. char ≢ 93) text

-- ---- the first bracket of a text
record IsBracketAt (text : List ℕ) (start at : ℕ) : Type 0 where
  front : List ℕ
  back : List ℕ
  whole : text ≡ front ++ 93 ∷ back
  none : NoBracket front
  place : at ≡ start + length front

bracket_step : (char : ℕ) (more : List ℕ) (start at : ℕ) (here : Bool) → is_bracket char ≡ here → (if here then Some start else position_from is_bracket (start + 1) more) ≡ Some at →
    (position_from is_bracket (start + 1) more ≡ Some at → IsBracketAt more (start + 1) at) → IsBracketAt (char ∷ more) start at
bracket_step char more start at true here found later =
    let same : start ≡ at = cc in
    record { front = []; back = more; whole = ap (λ c. c ∷ more) (eqb-true char 93 here); none = All-nil (λ c. c ≢ 93); place = omega arith }
bracket_step char more start at false here found later =
    let next = later found in
    let place = next.place in
    record { front = char ∷ next.front; back = next.back; whole = ap (λ t. char ∷ t) next.whole; none = All-cons (λ c. c ≢ 93) char next.front (eqb-false char 93 here) next.none; place = omega arith }

bracket_at : (text : List ℕ) (start at : ℕ) → position_from is_bracket start text ≡ Some at → IsBracketAt text start at
bracket_at [] start at found = absurd cc
bracket_at (char ∷ more) start at found = bracket_step char more start at (is_bracket char) refl found (bracket_at more (start + 1) at)

bracket_found : (front back : List ℕ) (start : ℕ) → NoBracket front → position_from is_bracket start (front ++ 93 ∷ back) ≡ Some (start + length front)
bracket_found [] back start none = ap (λ n. Some n) (omega arith)
bracket_found (char ∷ front) back start none =
    let further : start + 1 + length front ≡ start + suc (length front) = omega arith in
    ap (λ b. if b then Some start else position_from is_bracket (start + 1) (front ++ 93 ∷ back)) (ne_eqb char 93 (All-head (λ c. c ≢ 93) char front none))
    ∙ bracket_found front back (start + 1) (All-tail (λ c. c ≢ 93) char front none) ∙ ap (λ n. Some n) further

-- ---- a set that is read is written so
record IsSetText (negated : Bool) (text : List ℕ) (symbol : Symbol) (n : ℕ) : Type 0 where
  inner : List ℕ
  is_inner : IsInner negated inner
  symbol_is : Set negated (members inner) ≡ symbol
  own : take n text ≡ inner ++ 93 ∷ []

same_pair : (x y : Symbol × ℕ) → Some x ≡ Some y → (x.0 ≡ y.0) × (x.1 ≡ y.1)
same_pair x y e = let same : x ≡ y = cc in (ap (λ p. p.0) same, ap (λ p. p.1) same)

abbrev set_up_to : Bool → List ℕ → Option ℕ → Option (Symbol × ℕ)
set_up_to negated text found = option_map (λ k. (Set negated (members (take k text)), k + 1)) found

set_text_at : (negated : Bool) (first : ℕ) (more : List ℕ) (symbol : Symbol) (n : ℕ) (found : Option ℕ) → position_from is_bracket 1 more ≡ found → (negated ≡ false → first ≢ 94) →
    set_up_to negated (first ∷ more) found ≡ Some (symbol, n) → IsSetText negated (first ∷ more) symbol n
set_text_at negated first more symbol n None found may e = absurd cc
set_text_at negated first more symbol n (Some k) found may e =
    let at = bracket_at more 1 k found in
    let same = same_pair (Set negated (members (take k (first ∷ more))), k + 1) (symbol, n) e in
    let place = at.place in
    let ends = same.1 in
    let k_is : k ≡ suc (length at.front) = omega arith in
    let n_is : n ≡ suc (length at.front + 1) = omega arith in
    let inner_is : take k (first ∷ more) ≡ first ∷ at.front =
    ap (λ m. take m (first ∷ more)) k_is ∙ ap (λ t. first ∷ take (length at.front) t) at.whole ∙ ap (λ t. first ∷ t) (take-append_seam at.front (93 ∷ at.back)) in
    record {
      inner = first ∷ at.front;
      is_inner = (may, at.none);
      symbol_is = ap (λ t. Set negated (members t)) (sym inner_is) ∙ same.0;
      own = ap (λ m. take m (first ∷ more)) n_is ∙ ap (λ t. first ∷ take (length at.front + 1) t) at.whole ∙ ap (λ t. first ∷ t) (take-append-add at.front (93 ∷ at.back) 1);
    }

set_text : (negated : Bool) (text : List ℕ) (symbol : Symbol) (n : ℕ) → (negated ≡ false → begins_with 94 text ≡ false) → set_of negated text ≡ Some (symbol, n) → IsSetText negated text symbol n
set_text negated [] symbol n may e = absurd cc
set_text negated (first ∷ more) symbol n may e = set_text_at negated first more symbol n (position_from is_bracket 1 more) refl (λ no. eqb-false first 94 (may no)) e

set_writes : (negated : Bool) (text own : List ℕ) (symbol : Symbol) (n : ℕ) → IsSetText negated text symbol n → own ≡ 91 ∷ (caret negated ++ take n text) → Writes symbol own
set_writes negated text own symbol n is whole =
    let P : Symbol → Type 0 = λ p. Writes p own in
    subst P is.symbol_is (is.inner, whole ∙ ap (λ t. 91 ∷ (caret negated ++ t)) is.own, is.is_inner, refl)

shorter : (found : Option (Symbol × ℕ)) (symbol : Symbol) (n : ℕ) → longer found ≡ Some (symbol, n) → (m : ℕ) × (found ≡ Some (symbol, m)) × (n ≡ m + 1)
shorter None symbol n e = absurd cc
shorter (Some (other, m)) symbol n e =
    let same = same_pair (other, m + 1) (symbol, n) e in
    (m, ap (λ p. Some (p, m)) same.0, sym same.1)

set_behind_writes : (more : List ℕ) (symbol : Symbol) (n : ℕ) (negated : Bool) → begins_with 94 more ≡ negated → (if negated then longer (set_of true (drop 1 more)) else set_of false more) ≡ Some (symbol, n) →
    Writes symbol (91 ∷ take n more)
set_behind_writes more symbol n false begins e = set_writes false more (91 ∷ take n more) symbol n (set_text false more symbol n (λ no. begins) e) refl
set_behind_writes [] symbol n true begins e = absurd cc
set_behind_writes (first ∷ more) symbol n true begins e =
    let found = shorter (set_of true more) symbol n e in
    let sign : first ≡ 94 = eqb-true first 94 begins in
    let n_is : n ≡ suc found.0 = found.2 ∙ add-one found.0 in
    set_writes true more (91 ∷ take n (first ∷ more)) symbol found.0 (set_text true more symbol found.0 (λ no. absurd cc) found.1)
    (ap (λ m. 91 ∷ take m (first ∷ more)) n_is ∙ ap (λ c. 91 ∷ c ∷ take found.0 more) sign)

-- ---- and so is each other symbol
abbrev by_tests : Bool → Bool → Bool → ℕ → List ℕ → Option (Symbol × ℕ)
by_tests star any bracket char more = if star then Some (Run, 0) else if any then Some (One, 0) else if bracket then set_behind more else Some (Char char, 0)

writes_one : (p symbol : Symbol) (n char : ℕ) (more : List ℕ) → ◌≡◌ {A = Option (Symbol × ℕ)} (Some (p, 0)) (Some (symbol, n)) → Writes p (char ∷ []) → Writes symbol (char ∷ take n more)
writes_one p symbol n char more e writes =
    let same = same_pair (p, 0) (symbol, n) e in
    let P : Symbol → Type 0 = λ q. Writes q (char ∷ take n more) in
    let Q : ℕ → Type 0 = λ m. Writes p (char ∷ take m more) in
    subst P same.0 (subst Q same.1 writes)

writes_by_tests : (star any bracket : Bool) (char : ℕ) (more : List ℕ) (symbol : Symbol) (n : ℕ) → eqb char 42 ≡ star → eqb char 63 ≡ any → eqb char 91 ≡ bracket →
    by_tests star any bracket char more ≡ Some (symbol, n) → Writes symbol (char ∷ take n more)
writes_by_tests true any bracket char more symbol n is_star is_any is_open e = writes_one Run symbol n char more e (ap (λ c. c ∷ []) (eqb-true char 42 is_star))
writes_by_tests false true bracket char more symbol n is_star is_any is_open e = writes_one One symbol n char more e (ap (λ c. c ∷ []) (eqb-true char 63 is_any))
writes_by_tests false false true char more symbol n is_star is_any is_open e =
    let P : ℕ → Type 0 = λ c. Writes symbol (c ∷ take n more) in
    subst P (sym (eqb-true char 91 is_open)) (set_behind_writes more symbol n (begins_with 94 more) refl e)
writes_by_tests false false false char more symbol n is_star is_any is_open e =
    writes_one (Char char) symbol n char more e (refl, eqb-false char 42 is_star, eqb-false char 63 is_any, eqb-false char 91 is_open)

symbol_writes : (char : ℕ) (more : List ℕ) (symbol : Symbol) (n : ℕ) → symbol_of char more ≡ Some (symbol, n) → Writes symbol (char ∷ take n more)
symbol_writes char more symbol n e = writes_by_tests (eqb char 42) (eqb char 63) (eqb char 91) char more symbol n refl refl refl e

-- ---- what is read is spelled
abbrev read_on : Option (Symbol × ℕ) → List ℕ → Result (List Symbol) GlobFault
read_on found more = elim found [ Some (symbol, n) ↦ onto (symbol ∷ []) (symbols_behind n more) | None ↦ Err OpenBracket ]

spelled_more : (char : ℕ) (more : List ℕ) (symbols : List Symbol) (symbol : Symbol) (n : ℕ) (others : Result (List Symbol) GlobFault) → symbol_of char more ≡ Some (symbol, n) → symbols_behind n more ≡ others →
    onto (symbol ∷ []) others ≡ Ok symbols → ((others : List Symbol) → symbols_behind n more ≡ Ok others → Spells others (drop n more)) → Spells symbols (char ∷ more)
spelled_more char more symbols symbol n (Err fault) found rest e later = absurd cc
spelled_more char more symbols symbol n (Ok others) found rest e later =
    let same : symbol ∷ others ≡ symbols = cc in
    let P : List Symbol → Type 0 = λ p. Spells p (char ∷ more) in
    subst P same (char ∷ take n more, drop n more, ap (λ t. char ∷ t) (sym (take-append-drop n more)), symbol_writes char more symbol n found, later others rest)

spelled_step : (char : ℕ) (more : List ℕ) (symbols : List Symbol) (found : Option (Symbol × ℕ)) → symbol_of char more ≡ found → read_on found more ≡ Ok symbols →
    ((n : ℕ) (others : List Symbol) → symbols_behind n more ≡ Ok others → Spells others (drop n more)) → Spells symbols (char ∷ more)
spelled_step char more symbols None found e later = absurd cc
spelled_step char more symbols (Some (symbol, n)) found e later = spelled_more char more symbols symbol n (symbols_behind n more) found refl e (later n)

none_spelled : (symbols : List Symbol) → ◌≡◌ {A = Result (List Symbol) GlobFault} (Ok []) (Ok symbols) → Spells symbols []
none_spelled [] e = refl
none_spelled (symbol ∷ more) e = absurd cc

spelled_behind : (n : ℕ) (text : List ℕ) (symbols : List Symbol) → symbols_behind n text ≡ Ok symbols → Spells symbols (drop n text)
spelled_behind zero [] symbols e = none_spelled symbols e
spelled_behind (suc n) [] symbols e = none_spelled symbols e
spelled_behind (suc n) (char ∷ more) symbols e = spelled_behind n more symbols e
spelled_behind zero (char ∷ more) symbols e = spelled_step char more symbols (symbol_of char more) refl e (λ n others e. spelled_behind n more others e)

-- ---- a set that is written is read so
read_set : (negated : Bool) (first : ℕ) (more rest : List ℕ) → NoBracket more →
    set_of negated ((first ∷ (more ++ 93 ∷ [])) ++ rest) ≡ Some (Set negated (members (first ∷ more)), length (first ∷ (more ++ 93 ∷ [])))
read_set negated first more rest none =
    let text = first ∷ ((more ++ 93 ∷ []) ++ rest) in
    let split : (more ++ 93 ∷ []) ++ rest ≡ more ++ 93 ∷ rest = append_assoc more (93 ∷ []) rest in
    let found : inner_len text ≡ Some (suc (length more)) = ap (position_from is_bracket 1) split ∙ bracket_found more rest 1 none ∙ ap (λ n. Some n) (omega arith) in
    let inner : take (suc (length more)) text ≡ first ∷ more = ap (λ t. first ∷ take (length more) t) split ∙ ap (λ t. first ∷ t) (take-append_seam more (93 ∷ rest)) in
    let long : suc (length more) + 1 ≡ suc (length (more ++ 93 ∷ [])) = omega (arith, length-append more (93 ∷ [])) in
    ap (set_up_to negated text) found ∙ ap (λ t. Some (Set negated (members t), suc (length more) + 1)) inner ∙ ap (λ n. Some (Set negated (members (first ∷ more)), n)) long

-- ---- what is spelled is read
record IsRead (symbol : Symbol) (own : List ℕ) : Type 0 where
  char : ℕ
  tail : List ℕ
  whole : own ≡ char ∷ tail
  read : (rest : List ℕ) → symbol_of char (tail ++ rest) ≡ Some (symbol, length tail)

read_written_set : (negated : Bool) (held : List Range) (own inner : List ℕ) → own ≡ 91 ∷ (caret negated ++ (inner ++ 93 ∷ [])) → IsInner negated inner → held ≡ members inner → IsRead (Set negated held) own
read_written_set negated held own [] whole is same = absurd is
read_written_set false held own (first ∷ more) whole is same = record {
  char = 91;
  tail = first ∷ (more ++ 93 ∷ []);
  whole = whole;
  read = λ rest.
      ap (λ b. if b then longer (set_of true ((more ++ 93 ∷ []) ++ rest)) else set_of false (first ∷ ((more ++ 93 ∷ []) ++ rest))) (ne_eqb first 94 (is.0 refl))
      ∙ read_set false first more rest is.1 ∙ ap (λ m. Some (Set false m, length (first ∷ (more ++ 93 ∷ [])))) (sym same);
}
read_written_set true held own (first ∷ more) whole is same = record {
  char = 91;
  tail = 94 ∷ first ∷ (more ++ 93 ∷ []);
  whole = whole;
  read = λ rest.
      ap longer (read_set true first more rest is.1) ∙ ap (λ m. Some (Set true m, length (first ∷ (more ++ 93 ∷ [])) + 1)) (sym same)
      ∙ ap (λ n. Some (Set true held, n)) (add-one (length (first ∷ (more ++ 93 ∷ []))));
}

read_written : (symbol : Symbol) (own : List ℕ) → Writes symbol own → IsRead symbol own
read_written (Char char) own (whole, no_star, no_any, no_open) = record {
  char = char;
  tail = [];
  whole = whole;
  read = λ rest.
      ap (λ b. by_tests b (eqb char 63) (eqb char 91) char rest) (ne_eqb char 42 no_star)
      ∙ ap (λ b. by_tests false b (eqb char 91) char rest) (ne_eqb char 63 no_any)
      ∙ ap (λ b. by_tests false false b char rest) (ne_eqb char 91 no_open);
}
read_written Run own whole = record { char = 42; tail = []; whole = whole; read = λ rest. refl }
read_written One own whole = record { char = 63; tail = []; whole = whole; read = λ rest. refl }
read_written (Set negated held) own (inner, whole, is, same) = read_written_set negated held own inner whole is same

read_spelled : (symbols : List Symbol) (text : List ℕ) → Spells symbols text → symbols_behind 0 text ≡ Ok symbols
read_spelled [] text e = ap (symbols_behind 0) e
read_spelled (symbol ∷ more) text (own, rest, whole, writes, spells) =
    let is = read_written symbol own writes in
    let next : text ≡ is.char ∷ (is.tail ++ rest) = whole ∙ ap (λ t. t ++ rest) is.whole in
    symbols_step text (is.tail ++ rest) rest is.char symbol next (length is.tail, is.read rest, sym (drop-append_seam is.tail rest)) ∙ ap (onto (symbol ∷ [])) (read_spelled more rest spells)

-- a pattern has the symbols that it spells
pub read_is_spelled : (text : List ℕ) (symbols : List Symbol) → (symbols_behind 0 text ≡ Ok symbols) ↔ Spells symbols text
read_is_spelled text symbols = (spelled_behind 0 text symbols, read_spelled symbols text)
