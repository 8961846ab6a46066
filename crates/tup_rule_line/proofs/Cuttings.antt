-- The parts of a rule begin and end between the characters of its text.
use Rattle.std.proofs.Common.{◌≡◌, ◌⊎◌, inl, inr, ℕ, zero, suc, ◌+◌, ◌-◌, ◌<◌, ◌≤◌, Bool, true, false, cond, eqb, ltb, ◌&&◌, List, [], ◌∷◌, ◌++◌, length, take, drop, get_or, map, Option, Some, None, All, IfSome, IfOk, IsUtf8, option_map, Result, Ok, Err, refl, sym, ap, ◌∙◌, subst, arith, length-drop, length-take, length-append, bytes_eq, reverse}
use Rattle.std.specs.List.{slice_split, onto_first, find, before_first, after_first, position_or_len, prefix_len, suffix_len}
use Rattle.std.specs.Str.{IsCharBoundary}
use Rattle.std.proofs.lemmas.Bool.{and_parts, cases_lt}
use Rattle.std.proofs.lemmas.Bool.Decides.{nat_tests}
use Rattle.std.proofs.Math.Seq.{get_or-append_seam}
use Rattle.std.proofs.lemmas.Slice.Eq.{bytes_eq-Decides}
use Rattle.std.proofs.lemmas.List.{get_or_append_left, get_or-append_right, get_or-take, get_or-drop, get_or-reverse}
use Rattle.std.proofs.lemmas.List.Elements.{All-cons, All-nil, All-head, All-tail, All-take, All-drop, All-filter}
use Rattle.std.proofs.lemmas.List.Sums.{prefix_len-le-length, prefix_len_passes, suffix_len-le-length}
use Rattle.std.proofs.lemmas.Str.{IsCharBoundary-start, IsCharBoundary-end, IsCharBoundary-before_ascii, IsCharBoundary-after_ascii}
use Rattle.memchr.specs.Find.{occurs_at, match_len, matches_from, matches}
use Rattle.tup_lex.specs.Blank.{is_blank, trim}
use Rattle.tup_lex.specs.Word.{Word, span_of, inner_span, placed, begins_with, is_some_word, is_bin, is_group, is_bar, is_gift, words}
use Rattle.tup_lex.specs.Parts.{just_two, arrows, trimmed_span, says_foreach, inputs_of, made_of, gifts_of, inputs_stand, outputs_stand, assembled, parts_of, rule_parts}
use Rattle.tup_lex.specs.declared.fault.LexFault.{LexFault}
use Rattle.tup_lex.specs.declared.fault.LexFault.TheVariants.{NoArrow, BadBrace, Memory}
use Rattle.tup_lex.specs.declared.span.Span.{Span}
use Rattle.tup_lex.specs.declared.parts.Parts.{Parts}
use Rattle.tup_rule_line.specs.Cut.{IsCut, AreCut}

-- ---- parts that stand in a text
-- a part stands at a place of a text, and begins and ends between characters
pub record IsPart (text : List ℕ) (at : ℕ) (part : List ℕ) : Type 0 where
  pub within : at + length part ≤ length text
  pub bytes : (i : ℕ) → i < length part → get_or text (at + i) 0 ≡ get_or part i 0
  pub from : IsCharBoundary text at
  pub to : IsCharBoundary text (at + length part)

small_blank : (byte : ℕ) → is_blank byte ≡ true → byte < 128
small_blank byte e = grind (arith, nat_tests)

-- before and behind a byte that is a character by itself
before_small : (text : List ℕ) (at : ℕ) (part : List ℕ) (i : ℕ) → IsPart text at part → i < length part → get_or part i 0 < 128 → IsCharBoundary text (at + i)
before_small text at part i is within small = IsCharBoundary-before_ascii text (at + i) (omega (arith, is.within)) (rw (is.bytes i within) small)

behind_small : (text : List ℕ) (at : ℕ) (part : List ℕ) (i : ℕ) → IsUtf8 text → IsPart text at part → i < length part → get_or part i 0 < 128 → IsCharBoundary text (at + i + 1)
behind_small text at part i utf8 is within small = IsCharBoundary-after_ascii text (at + i) utf8 (omega (arith, is.within)) (rw (is.bytes i within) small)

-- what stands before a blank of a part, and behind it
before_blank : (text : List ℕ) (at : ℕ) (piece : List ℕ) (blank : ℕ) (rest : List ℕ) → IsPart text at (piece ++ blank ∷ rest) → is_blank blank ≡ true → IsPart text at piece
before_blank text at piece blank rest is e =
    let n : length (piece ++ blank ∷ rest) ≡ length piece + length (blank ∷ rest) = length-append piece (blank ∷ rest) in
    let here : get_or (piece ++ blank ∷ rest) (length piece) 0 ≡ blank = get_or-append_seam piece blank rest 0 in
    record {
      within = omega (arith, n, is.within);
      bytes = λ i h. is.bytes i (omega (arith, n, h)) ∙ get_or_append_left piece (blank ∷ rest) 0 i h;
      from = is.from;
      to = before_small text at (piece ++ blank ∷ rest) (length piece) is (omega (arith, n)) (rw here (small_blank blank e));
    }

behind_blank : (text : List ℕ) (at : ℕ) (piece : List ℕ) (blank : ℕ) (rest : List ℕ) → IsUtf8 text → IsPart text at (piece ++ blank ∷ rest) → is_blank blank ≡ true → IsPart text (at + length piece + 1) rest
behind_blank text at piece blank rest utf8 is e =
    let n : length (piece ++ blank ∷ rest) ≡ length piece + length (blank ∷ rest) = length-append piece (blank ∷ rest) in
    let here : get_or (piece ++ blank ∷ rest) (length piece) 0 ≡ blank = get_or-append_seam piece blank rest 0 in
    let end : at + length piece + 1 + length rest ≡ at + length (piece ++ blank ∷ rest) = omega (arith, n) in
    record {
      within = omega (arith, n, is.within);
      bytes = λ i h.
          let place : at + length piece + 1 + i ≡ at + (length piece + suc i) = omega arith in
          let shift : length piece + suc i - length piece ≡ suc i = omega arith in
          ap (λ k. get_or text k 0) place ∙ is.bytes (length piece + suc i) (omega (arith, n, h))
          ∙ get_or-append_right piece (blank ∷ rest) (length piece) (length piece + suc i) 0 refl (omega arith)
          ∙ ap (λ k. get_or (blank ∷ rest) k 0) shift;
      from = behind_small text at (piece ++ blank ∷ rest) (length piece) utf8 is (omega (arith, n)) (rw here (small_blank blank e));
      to = rw end is.to;
    }

-- ---- pieces between blanks
-- pieces and the blanks between them are a part of a text
abbrev pub Joined : List (List ℕ) → List ℕ → Type 0
Joined [] part = ⊥
Joined (piece ∷ []) part = part ≡ piece
Joined (piece ∷ next ∷ more) part = (blank : ℕ) × (rest : List ℕ) × (part ≡ piece ++ blank ∷ rest) × (is_blank blank ≡ true) × Joined (next ∷ more) rest

onto-Joined : (byte : ℕ) (pieces : List (List ℕ)) (part : List ℕ) → Joined pieces part → Joined (onto_first byte pieces) (byte ∷ part)
onto-Joined byte [] part h = absurd h
onto-Joined byte (piece ∷ []) part h = ap (λ p. byte ∷ p) h
onto-Joined byte (piece ∷ next ∷ more) part (blank, rest, whole, is, joined) = (blank, rest, ap (λ p. byte ∷ p) whole, is, joined)

pub split-Joined : (part : List ℕ) → Joined (slice_split is_blank part) part
split-Joined [] = refl
split-Joined (byte ∷ part) = by (is_blank byte) refl (slice_split is_blank part) (split-Joined part)
  where
    by : (b : Bool) → is_blank byte ≡ b → (pieces : List (List ℕ)) → Joined pieces part → Joined (cond b ([] ∷ pieces) (onto_first byte pieces)) (byte ∷ part)
    by true e [] h = absurd h
    by true e (piece ∷ more) h = (byte, part, refl, e, h)
    by false e pieces h = onto-Joined byte pieces part h

-- ---- words
-- a word begins and ends between characters
abbrev pub IsWord : List ℕ → Word → Type 0
IsWord text word = IsPart text word.0 word.1

pieces-cut : (text : List ℕ) (at : ℕ) (part : List ℕ) (pieces : List (List ℕ)) → IsUtf8 text → IsPart text at part → Joined pieces part → All (IsWord text) (placed at pieces)
pieces-cut text at part [] utf8 is h = absurd h
pieces-cut text at part (piece ∷ []) utf8 is h = All-cons (IsWord text) (at, piece) [] (subst (IsPart text at) h is) (All-nil (IsWord text))
pieces-cut text at part (piece ∷ next ∷ more) utf8 is (blank, rest, whole, e, joined) =
    let here = subst (IsPart text at) whole is in
    All-cons (IsWord text) (at, piece) (placed (at + length piece + 1) (next ∷ more)) (before_blank text at piece blank rest here e)
    (pieces-cut text (at + length piece + 1) rest (next ∷ more) utf8 (behind_blank text at piece blank rest utf8 here e) joined)

words-cut : (text : List ℕ) (at : ℕ) (part : List ℕ) → IsUtf8 text → IsPart text at part → All (IsWord text) (words at part)
words-cut text at part utf8 is = All-filter is_some_word (IsWord text) (placed at (slice_split is_blank part)) (pieces-cut text at part (slice_split is_blank part) utf8 is (split-Joined part))

span-cut : (text : List ℕ) (word : Word) → IsWord text word → IsCut text (span_of word)
span-cut text word is = record { order = omega arith; from = is.from; to = is.to }

spans-cut : (text : List ℕ) (all : List Word) → All (IsWord text) all → All (IsCut text) (map span_of all)
spans-cut text [] h = All-nil (IsCut text)
spans-cut text (word ∷ more) h =
    All-cons (IsCut text) (span_of word) (map span_of more) (span-cut text word (All-head (IsWord text) word more h)) (spans-cut text more (All-tail (IsWord text) word more h))

-- the first group, and the inside of the first bin
group-cut : (text : List ℕ) (all : List Word) → All (IsWord text) all → IfSome (option_map span_of (find is_group all)) (IsCut text)
group-cut text [] h = tt
group-cut text (word ∷ more) h = by (is_group word) (group-cut text more (All-tail (IsWord text) word more h))
  where
    by : (b : Bool) → IfSome (option_map span_of (find is_group more)) (IsCut text) → IfSome (option_map span_of (cond b (Some word) (find is_group more))) (IsCut text)
    by true rest = span-cut text word (All-head (IsWord text) word more h)
    by false rest = rest

begins-small : (byte : ℕ) (text : List ℕ) → byte < 128 → begins_with byte text ≡ true → get_or text 0 0 < 128
begins-small byte [] small e = absurd (cc)
begins-small byte (first ∷ rest) small e = let same : first ≡ byte = grind (arith, nat_tests) in omega (arith, same)

inside-cut : (text : List ℕ) (word : Word) → IsUtf8 text → IsWord text word → is_bin word ≡ true → IsCut text (inner_span word)
inside-cut text word utf8 is e =
    let bytes = word.1 in
    let n = length bytes in
    let long_enough = and_parts (begins_with 123 bytes && eqb (get_or bytes (n - 1) 0) 125) (ltb 2 n) e in
    let ends = and_parts (begins_with 123 bytes) (eqb (get_or bytes (n - 1) 0) 125) long_enough.0 in
    let long : 2 < n = let t = long_enough.1 in grind (arith, nat_tests) in
    let closes : get_or bytes (n - 1) 0 < 128 = let t = ends.1 in grind (arith, nat_tests) in
    let start : word.0 + 0 + 1 ≡ word.0 + 1 = omega arith in
    let stop : word.0 + (n - 1) ≡ word.0 + n - 1 = omega arith in
    record {
      order = omega (arith, long);
      from = rw start at (behind_small text word.0 bytes 0 utf8 is (omega (arith, long)) (begins-small 123 bytes (omega arith) ends.0));
      to = rw stop at (before_small text word.0 bytes (n - 1) is (omega (arith, long)) closes);
    }

bin-cut : (text : List ℕ) (all : List Word) → IsUtf8 text → All (IsWord text) all → IfSome (option_map inner_span (find is_bin all)) (IsCut text)
bin-cut text [] utf8 h = tt
bin-cut text (word ∷ more) utf8 h = by (is_bin word) refl (bin-cut text more utf8 (All-tail (IsWord text) word more h))
  where
    by : (b : Bool) → is_bin word ≡ b → IfSome (option_map inner_span (find is_bin more)) (IsCut text) → IfSome (option_map inner_span (cond b (Some word) (find is_bin more))) (IsCut text)
    by true e rest = inside-cut text word utf8 (All-head (IsWord text) word more h) e
    by false e rest = rest

-- ---- the command
blank_front : (text : List ℕ) (at : ℕ) (part : List ℕ) (k : ℕ) → IsUtf8 text → IsPart text at part → k ≤ length part → ((i : ℕ) → i < k → is_blank (get_or part i 0) ≡ true) → IsCharBoundary text (at + k)
blank_front text at part zero utf8 is within blanks = let same : at ≡ at + zero = omega arith in subst (IsCharBoundary text) same is.from
blank_front text at part (suc k) utf8 is within blanks =
    let same : at + k + 1 ≡ at + suc k = omega arith in
    subst (IsCharBoundary text) same (behind_small text at part k utf8 is (omega (arith, within)) (small_blank (get_or part k 0) (blanks k (omega arith))))

suffix_blank : (rest : List ℕ) → 0 < suffix_len is_blank rest → is_blank (get_or rest (length rest - suffix_len is_blank rest) 0) ≡ true
suffix_blank rest some =
    let back = suffix_len is_blank rest in
    let few : back ≤ length rest = suffix_len-le-length is_blank rest in
    let place : length rest - 1 - (back - 1) ≡ length rest - back = omega (arith, some, few) in
    ap (λ k. is_blank (get_or rest k 0)) (sym place) ∙ ap is_blank (sym (get_or-reverse rest (back - 1) 0 (omega (arith, some, few))))
    ∙ prefix_len_passes is_blank (reverse rest) (back - 1) 0 (omega (arith, some))

command-cut : (text : List ℕ) (at : ℕ) (part : List ℕ) → IsUtf8 text → IsPart text at part → IsCut text (trimmed_span at part)
command-cut text at part utf8 is = record {
  order = omega arith;
  from = blank_front text at part front utf8 is few (λ i h. prefix_len_passes is_blank part i 0 h);
  to = by (cases_lt 0 back);
}
  where
    front : ℕ
    front = prefix_len is_blank part

    rest : List ℕ
    rest = drop (prefix_len is_blank part) part

    back : ℕ
    back = suffix_len is_blank rest

    few : prefix_len is_blank part ≤ length part
    few = prefix_len-le-length is_blank part

    n : length rest ≡ length part - prefix_len is_blank part
    n = length-drop (prefix_len is_blank part) part

    trimmed : length (trim part) ≡ length rest - suffix_len is_blank rest
    trimmed = omega (arith, length-take (length rest - suffix_len is_blank rest) rest)

    by : (0 < suffix_len is_blank rest) ⊎ (suffix_len is_blank rest ≤ 0) → IsCharBoundary text (at + prefix_len is_blank part + length (trim part))
    by (inl some) =
        let same : at + (prefix_len is_blank part + length (trim part)) ≡ at + prefix_len is_blank part + length (trim part) = omega arith in
        let here : get_or part (prefix_len is_blank part + (length rest - suffix_len is_blank rest)) 0 ≡ get_or rest (length rest - suffix_len is_blank rest) 0 = sym (get_or-drop (prefix_len is_blank part) part (length rest - suffix_len is_blank rest) 0) in
        let small : get_or part (prefix_len is_blank part + length (trim part)) 0 < 128 = rw (trimmed, here) (small_blank (get_or rest (length rest - suffix_len is_blank rest) 0) (suffix_blank rest some)) in
        subst (IsCharBoundary text) same
        (before_small text at part (prefix_len is_blank part + length (trim part)) is (omega (arith, some, trimmed, n, few, suffix_len-le-length is_blank rest)) small)
    by (inr none) =
        let same : at + length part ≡ at + prefix_len is_blank part + length (trim part) = omega (arith, none, trimmed, n, few) in
        subst (IsCharBoundary text) same is.to

-- ---- all parts
inputs-cut : (text : List ℕ) (left : List Word) → All (IsWord text) left → All (IsWord text) (inputs_of left)
inputs-cut text left h = by (says_foreach left)
  where
    by : (b : Bool) → All (IsWord text) (cond b (drop 1 left) left)
    by true = All-drop (IsWord text) 1 left h
    by false = h

assembled-cut : (text : List ℕ) (foreach : Bool) (inputs : List Word) (command : Span) (right : List Word) → IsUtf8 text → All (IsWord text) inputs → IsCut text command → All (IsWord text) right
    → AreCut text (assembled foreach inputs command right)
assembled-cut text foreach inputs command right utf8 ins inside outs =
    let made : All (IsWord text) (made_of right) = All-take (IsWord text) (position_or_len is_gift right) right outs in
    let gifts : All (IsWord text) (gifts_of right) = All-drop (IsWord text) (position_or_len is_gift right) right outs in
    record {
      inputs = spans-cut text (before_first is_bar inputs) (All-take (IsWord text) (position_or_len is_bar inputs) inputs ins);
      order = spans-cut text (after_first is_bar inputs) (All-drop (IsWord text) (position_or_len is_bar inputs + 1) inputs ins);
      command = inside;
      outputs = spans-cut text (before_first is_bar (made_of right)) (All-take (IsWord text) (position_or_len is_bar (made_of right)) (made_of right) made);
      extra = spans-cut text (after_first is_bar (made_of right)) (All-drop (IsWord text) (position_or_len is_bar (made_of right) + 1) (made_of right) made);
      group = group-cut text (gifts_of right) gifts;
      bin = bin-cut text (gifts_of right) utf8 gifts;
    }

parts_of-cut : (text : List ℕ) (left : List Word) (command : Span) (right : List Word) → IsUtf8 text → All (IsWord text) left → IsCut text command → All (IsWord text) right → IfOk (parts_of left command right) (AreCut text)
parts_of-cut text left command right utf8 ins inside outs = by (inputs_stand (says_foreach left) (inputs_of left) && outputs_stand right)
  where
    by : (b : Bool) → IfOk (cond b (Ok (assembled (says_foreach left) (inputs_of left) command right)) (Err BadBrace)) (AreCut text)
    by true = assembled-cut text (says_foreach left) (inputs_of left) command right utf8 (inputs-cut text left ins) inside outs
    by false = tt

-- ---- the two arrows
-- an arrow stands at a place
pub record IsArrow (text : List ℕ) (at : ℕ) : Type 0 where
  pub within : at + 2 ≤ length text
  pub bar : get_or text at 0 < 128
  pub tip : get_or text (at + 1) 0 < 128

arrow-at : (text : List ℕ) (at : ℕ) → occurs_at text (124 ∷ 62 ∷ []) at ≡ true → IsArrow text at
arrow-at text at e =
    let parts = and_parts _ (bytes_eq (take 2 (drop at text)) (124 ∷ 62 ∷ [])) e in
    let fits : at + 2 ≤ length text = let t = parts.0 in grind (arith, nat_tests) in
    let same : take 2 (drop at text) ≡ 124 ∷ 62 ∷ [] = (bytes_eq-Decides (take 2 (drop at text)) (124 ∷ 62 ∷ [])).0 parts.1 in
    let zero_at : at + 0 ≡ at = omega arith in
    let bar : get_or text at 0 ≡ 124 = ap (λ k. get_or text k 0) (sym zero_at) ∙ sym (get_or-drop at text 0 0) ∙ sym (get_or-take 2 (drop at text) 0 0 (omega arith)) ∙ ap (λ t. get_or t 0 0) same in
    let tip : get_or text (at + 1) 0 ≡ 62 = sym (get_or-drop at text 1 0) ∙ sym (get_or-take 2 (drop at text) 1 0 (omega arith)) ∙ ap (λ t. get_or t 1 0) same in
    record { within = fits; bar = omega (arith, bar); tip = omega (arith, tip) }

-- places of arrows, one behind another
pub record AreArrows (text : List ℕ) (first second : ℕ) : Type 0 where
  pub one : IsArrow text first
  pub other : IsArrow text second
  pub apart : first + 2 ≤ second

abbrev InRow : List ℕ → ℕ → List ℕ → Type 0
InRow text low [] = Unit {0}
InRow text low (at ∷ more) = (low ≤ at) × IsArrow text at × InRow text (at + 2) more

lower : (text : List ℕ) (low high : ℕ) (all : List ℕ) → low ≤ high → InRow text high all → InRow text low all
lower text low high [] le h = tt
lower text low high (at ∷ more) le (above, is, rest) = (omega (arith, le, above), is, rest)

matches-row : (text : List ℕ) (skip at n : ℕ) → InRow text (at + skip) (matches_from text (124 ∷ 62 ∷ []) skip at n)
unfolding matches_from
matches-row text skip at zero = tt
matches-row text zero at (suc n) = by (occurs_at text (124 ∷ 62 ∷ []) at) refl (matches-row text 1 (at + 1) n) (matches-row text 0 (at + 1) n)
  where
    by : (b : Bool) → occurs_at text (124 ∷ 62 ∷ []) at ≡ b → InRow text (at + 1 + 1) (matches_from text (124 ∷ 62 ∷ []) 1 (at + 1) n) → InRow text (at + 1 + 0) (matches_from text (124 ∷ 62 ∷ []) 0 (at + 1) n)
        → InRow text (at + 0) (cond b (at ∷ matches_from text (124 ∷ 62 ∷ []) (match_len (124 ∷ 62 ∷ []) - 1) (at + 1) n) (matches_from text (124 ∷ 62 ∷ []) 0 (at + 1) n))
    by true e behind next = (omega arith, arrow-at text at e, lower text (at + 2) (at + 1 + 1) (matches_from text (124 ∷ 62 ∷ []) 1 (at + 1) n) (omega arith) behind)
    by false e behind next = lower text (at + 0) (at + 1 + 0) (matches_from text (124 ∷ 62 ∷ []) 0 (at + 1) n) (omega arith) next
matches-row text (suc skip) at (suc n) =
    lower text (at + suc skip) (at + 1 + skip) (matches_from text (124 ∷ 62 ∷ []) skip (at + 1) n) (omega arith) (matches-row text skip (at + 1) n)

two-arrows : (text : List ℕ) (places : List ℕ) → InRow text 0 places → IfSome (just_two places) (λ p. AreArrows text p.0 p.1)
two-arrows text [] h = tt
two-arrows text (first ∷ []) h = tt
two-arrows text (first ∷ second ∷ []) (low, one, (apart, other, rest)) = record { one = one; other = other; apart = apart }
two-arrows text (first ∷ second ∷ third ∷ more) h = tt

arrows-stand : (text : List ℕ) → IfSome (arrows text) (λ p. AreArrows text p.0 p.1)
arrows-stand text = two-arrows text (matches text (124 ∷ 62 ∷ []) 0) (matches-row text 0 0 (length text + 1 - 0))

-- ---- the parts of a rule
left-part : (text : List ℕ) (first : ℕ) → IsUtf8 text → IsArrow text first → IsPart text 0 (take first text)
left-part text first utf8 is =
    let n : length (take first text) ≡ first = omega (arith, length-take first text, is.within) in
    let end : first ≡ 0 + length (take first text) = omega (arith, n) in
    record {
      within = omega (arith, n, is.within);
      bytes = λ i h.
          let place : 0 + i ≡ i = omega arith in
          ap (λ k. get_or text k 0) place ∙ sym (get_or-take first text i 0 (omega (arith, n, h)));
      from = IsCharBoundary-start text utf8;
      to = subst (IsCharBoundary text) end (IsCharBoundary-before_ascii text first (omega (arith, is.within)) is.bar);
    }

right-part : (text : List ℕ) (second : ℕ) → IsUtf8 text → IsArrow text second → IsPart text (second + 2) (drop (second + 2) text)
right-part text second utf8 is =
    let n : second + 2 + length (drop (second + 2) text) ≡ length text = omega (arith, length-drop (second + 2) text, is.within) in
    let behind : second + 1 + 1 ≡ second + 2 = omega arith in
    record {
      within = omega (arith, n);
      bytes = λ i h. sym (get_or-drop (second + 2) text i 0);
      from = subst (IsCharBoundary text) behind (IsCharBoundary-after_ascii text (second + 1) utf8 (omega (arith, is.within)) is.tip);
      to = rw n (IsCharBoundary-end text);
    }

middle-part : (text : List ℕ) (first second : ℕ) → IsUtf8 text → AreArrows text first second → IsPart text (first + 2) (take (second - (first + 2)) (drop (first + 2) text))
middle-part text first second utf8 are =
    let part = take (second - (first + 2)) (drop (first + 2) text) in
    let n : length part ≡ second - (first + 2) = omega (arith, length-take (second - (first + 2)) (drop (first + 2) text), length-drop (first + 2) text, are.apart, are.other.within) in
    let end : second ≡ first + 2 + length part = omega (arith, n, are.apart) in
    let behind : first + 1 + 1 ≡ first + 2 = omega arith in
    record {
      within = omega (arith, n, are.apart, are.other.within);
      bytes = λ i h. sym (get_or-drop (first + 2) text i 0) ∙ sym (get_or-take (second - (first + 2)) (drop (first + 2) text) i 0 (omega (arith, n, h)));
      from = subst (IsCharBoundary text) behind (IsCharBoundary-after_ascii text (first + 1) utf8 (omega (arith, are.one.within)) are.one.tip);
      to = subst (IsCharBoundary text) end (IsCharBoundary-before_ascii text second (omega (arith, are.other.within)) are.other.bar);
    }

two-cut : (text : List ℕ) (first second : ℕ) → IsUtf8 text → AreArrows text first second
    → IfOk (parts_of (words 0 (take first text)) (trimmed_span (first + 2) (take (second - (first + 2)) (drop (first + 2) text))) (words (second + 2) (drop (second + 2) text))) (AreCut text)
two-cut text first second utf8 are =
    let middle = take (second - (first + 2)) (drop (first + 2) text) in
    parts_of-cut text _ _ _ utf8 (words-cut text 0 (take first text) utf8 (left-part text first utf8 are.one))
    (command-cut text (first + 2) middle utf8 (middle-part text first second utf8 are))
    (words-cut text (second + 2) (drop (second + 2) text) utf8 (right-part text second utf8 are.other))

-- all parts of a rule begin and end between characters
pub rule_parts-cut : (text : List ℕ) → IsUtf8 text → IfOk (rule_parts text) (AreCut text)
rule_parts-cut text utf8 = by (arrows text) (arrows-stand text)
  where
    by : (places : Option (ℕ × ℕ)) → IfSome places (λ p. AreArrows text p.0 p.1) → IfOk (elim places as (λ _. Result Parts LexFault) [ Some p ↦ parts_of (words 0 (take p.0 text)) (trimmed_span (p.0 + 2) (take (p.1 - (p.0 + 2)) (drop (p.0 + 2) text))) (words (p.1 + 2) (drop (p.1 + 2) text)) | None ↦ Err NoArrow ]) (AreCut text)
    by (Some (first, second)) are = two-cut text first second utf8 are
    by None _ = tt

-- and so do those that a call gave
pub given-cut : (text : List ℕ) (parts : Parts) → IsUtf8 text → (Ok parts ≡ Err Memory) ⊎ (Ok parts ≡ rule_parts text) → AreCut text parts
given-cut text parts utf8 (inl e) = absurd (cc)
given-cut text parts utf8 (inr e) = subst (λ (r : Result Parts LexFault). IfOk r (AreCut text)) (sym e) (rule_parts-cut text utf8)
