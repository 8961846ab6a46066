-- the spans of words lie in the text, one after another
use Rattle.std.proofs.Common.{◌≡◌, ℕ, zero, suc, ◌+◌, ◌-◌, ◌<◌, ◌≤◌, Bool, true, false, cond, ltb, List, [], ◌∷◌, length, take, drop, map, Option, Some, None, refl, sym, ◌∙◌, arith, length-drop, length-take, ◌&&◌, Result, Ok, Err, rules, subst, ⊎_elim, ◌⊎◌}
use Rattle.std.specs.List.{filter, slice_split, onto_first, find, All, prefix_len, suffix_len, before_first, after_first, position_or_len}
use Rattle.std.specs.Option.{option_map, IfSome}
use Rattle.std.specs.Result.{IfOk}
use Rattle.std.proofs.lemmas.Bool.{and_parts}
use Rattle.std.proofs.lemmas.Bool.Decides.{nat_tests}
use Rattle.std.proofs.lemmas.List.Sums.{prefix_len-le-length}
use Rattle.std.proofs.lemmas.List.Elements.{All-cons}
use Rattle.bstr.specs.Find.{matches}
use Rattle.bstr.specs.Text.{MatchList}
use Rattle.bstr.proofs.lemmas.MatchListLemmas.{matches-list, MatchList-head}
use Rattle.tup_lex.specs.Blank.{is_blank}
use Rattle.tup_lex.specs.Word.{Word, span_of, inner_span, placed, is_some_word, words, is_bin, is_group, is_bar, is_gift}
use Rattle.tup_lex.specs.Parts.{just_two, arrows, trimmed_span, says_foreach, inputs_of, made_of, gifts_of, inputs_stand, outputs_stand, assembled, parts_of, rule_parts}
use Rattle.tup_lex.specs.Spans.{IsIn, InOrder, AreIn, LieIn}
use Rattle.tup_lex.specs.declared.fault.LexFault.{LexFault}
use Rattle.tup_lex.specs.declared.fault.LexFault.TheVariants.{NoArrow, BadBrace, Memory}
use Rattle.tup_lex.specs.declared.span.Span.{Span}
use Rattle.tup_lex.specs.declared.parts.Parts.{Parts}

-- words that lie in a text of n bytes, one after another from a place on
abbrev pub Follow : ℕ → ℕ → List Word → Type 0
Follow n from [] = Unit {0}
Follow n from (one ∷ more) = (from ≤ one.0) × (0 < length one.1) × (one.0 + length one.1 ≤ n) × Follow n (one.0 + length one.1) more

lower-Follow : (n low from : ℕ) (all : List Word) → low ≤ from → Follow n from all → Follow n low all
lower-Follow n low from [] le h = tt
lower-Follow n low from (one ∷ more) le (start, some, within, rest) = (omega arith, some, within, rest)

-- how many bytes pieces take, with the one behind each
abbrev total : List (List ℕ) → ℕ
total [] = 0
total (piece ∷ more) = length piece + 1 + total more

onto_first-total : (byte : ℕ) (pieces : List (List ℕ)) (m : ℕ) → total pieces ≡ m + 1 → total (onto_first byte pieces) ≡ m + 2
onto_first-total byte [] m e = absurd (omega arith)
onto_first-total byte (piece ∷ more) m e = omega arith

slice_split-total : (part : List ℕ) → total (slice_split is_blank part) ≡ length part + 1
slice_split-total [] = refl
slice_split-total (byte ∷ part) = by_test (is_blank byte) (slice_split-total part)
  where
    by_test : (b : Bool) → total (slice_split is_blank part) ≡ length part + 1 → total (cond b ([] ∷ slice_split is_blank part) (onto_first byte (slice_split is_blank part))) ≡ length (byte ∷ part) + 1
    by_test true e = omega arith
    by_test false e = onto_first-total byte (slice_split is_blank part) (length part) e ∙ omega arith

placed-Follow : (n at : ℕ) (pieces : List (List ℕ)) → at + total pieces ≤ n + 1 → Follow n at (filter is_some_word (placed at pieces))
placed-Follow n at [] h = tt
placed-Follow n at ([] ∷ more) h = lower-Follow n at (at + 0 + 1) (filter is_some_word (placed (at + 0 + 1) more)) (omega arith) (placed-Follow n (at + 0 + 1) more (omega arith))
placed-Follow n at ((byte ∷ piece) ∷ more) h =
    let next = at + length (byte ∷ piece) + 1 in
    let some : ltb 0 (length (byte ∷ piece)) ≡ true = grind (arith, nat_tests) in
    let rest : Follow n (at + length (byte ∷ piece)) (filter is_some_word (placed next more)) = lower-Follow n (at + length (byte ∷ piece)) next (filter is_some_word (placed next more)) (omega arith) (placed-Follow n next more (omega arith)) in
    rw some (omega arith, omega arith, omega arith, rest)

pub words-Follow : (n at : ℕ) (part : List ℕ) → at + length part ≤ n → Follow n at (words at part)
words-Follow n at part h = placed-Follow n at (slice_split is_blank part) (omega (arith, slice_split-total part))

-- parts of such a list
pub take-Follow : (n from k : ℕ) (all : List Word) → Follow n from all → Follow n from (take k all)
take-Follow n from zero all h = tt
take-Follow n from (suc k) [] h = tt
take-Follow n from (suc k) (one ∷ more) (start, some, within, rest) = (start, some, within, take-Follow n (one.0 + length one.1) k more rest)

pub drop-Follow : (n from k : ℕ) (all : List Word) → Follow n from all → Follow n from (drop k all)
drop-Follow n from zero all h = h
drop-Follow n from (suc k) [] h = tt
drop-Follow n from (suc k) (one ∷ more) (start, some, within, rest) = lower-Follow n from (one.0 + length one.1) (drop k more) (omega arith) (drop-Follow n (one.0 + length one.1) k more rest)

-- their spans
follow-within : (n from : ℕ) (all : List Word) → Follow n from all → All (IsIn n) (map span_of all)
follow-within n from [] h = search rules
follow-within n from (one ∷ more) (start, some, within, rest) = All-cons (IsIn n) (span_of one) (map span_of more) (omega arith, within) (follow-within n (one.0 + length one.1) more rest)

follow-order : (n from : ℕ) (all : List Word) → Follow n from all → InOrder from (map span_of all)
follow-order n from [] h = tt
follow-order n from (one ∷ more) (start, some, within, rest) = (start, follow-order n (one.0 + length one.1) more rest)

pub AreIn-from_Follow : (n : ℕ) (all : List Word) → Follow n 0 all → AreIn n (map span_of all)
AreIn-from_Follow n all h = record { within = follow-within n 0 all h; order = follow-order n 0 all h }

-- the first group, and the inside of the first bin
pub group-IsIn : (n from : ℕ) (all : List Word) → Follow n from all → IfSome (option_map span_of (find is_group all)) (IsIn n)
group-IsIn n from [] h = tt
group-IsIn n from (one ∷ more) (start, some, within, rest) = by_test (is_group one) (group-IsIn n (one.0 + length one.1) more rest)
  where
    by_test : (b : Bool) → IfSome (option_map span_of (find is_group more)) (IsIn n) → IfSome (option_map span_of (cond b (Some one) (find is_group more))) (IsIn n)
    by_test true h = (omega arith, within)
    by_test false h = h

longer_bin : (one : Word) → is_bin one ≡ true → 2 < length one.1
longer_bin one e = let longer : ltb 2 (length one.1) ≡ true = (and_parts _ (ltb 2 (length one.1)) e).1 in grind (arith, nat_tests)

pub bin-IsIn : (n from : ℕ) (all : List Word) → Follow n from all → IfSome (option_map inner_span (find is_bin all)) (IsIn n)
bin-IsIn n from [] h = tt
bin-IsIn n from (one ∷ more) (start, some, within, rest) = by_test (is_bin one) refl (bin-IsIn n (one.0 + length one.1) more rest)
  where
    by_test : (b : Bool) → is_bin one ≡ b → IfSome (option_map inner_span (find is_bin more)) (IsIn n) → IfSome (option_map inner_span (cond b (Some one) (find is_bin more))) (IsIn n)
    by_test true e h = let longer : 2 < length one.1 = longer_bin one e in (omega arith, omega arith)
    by_test false e h = h

-- the command
pub command-within : (n at : ℕ) (part : List ℕ) → at + length part ≤ n → ((trimmed_span at part).from ≤ (trimmed_span at part).to) × ((trimmed_span at part).to ≤ n)
command-within n at part h =
    let skipped = prefix_len is_blank part in
    let rest = drop skipped part in
    let kept = length rest - suffix_len is_blank rest in
    let len : length (take kept rest) ≤ length part - skipped = omega (arith, length-take kept rest, length-drop skipped part) in
    let few : skipped ≤ length part = prefix_len-le-length is_blank part in
    (omega arith, omega arith)

-- the words of the inputs behind a `foreach`
inputs-Follow : (n : ℕ) (left : List Word) → Follow n 0 left → Follow n 0 (inputs_of left)
inputs-Follow n left h = by_test (says_foreach left)
  where
    by_test : (b : Bool) → Follow n 0 (cond b (drop 1 left) left)
    by_test true = drop-Follow n 0 1 left h
    by_test false = h

assembled-LieIn : (n : ℕ) (foreach : Bool) (inputs : List Word) (command : Span) (right : List Word) → Follow n 0 inputs → (command.from ≤ command.to) × (command.to ≤ n) → Follow n 0 right → LieIn n (assembled foreach inputs command right)
assembled-LieIn n foreach inputs command right ins inside outs =
    let made : Follow n 0 (made_of right) = take-Follow n 0 (position_or_len is_gift right) right outs in
    let gifts : Follow n 0 (gifts_of right) = drop-Follow n 0 (position_or_len is_gift right) right outs in
    record {
      inputs = AreIn-from_Follow n (before_first is_bar inputs) (take-Follow n 0 (position_or_len is_bar inputs) inputs ins);
      order = AreIn-from_Follow n (after_first is_bar inputs) (drop-Follow n 0 (position_or_len is_bar inputs + 1) inputs ins);
      command = inside;
      outputs = AreIn-from_Follow n (before_first is_bar (made_of right)) (take-Follow n 0 (position_or_len is_bar (made_of right)) (made_of right) made);
      extra = AreIn-from_Follow n (after_first is_bar (made_of right)) (drop-Follow n 0 (position_or_len is_bar (made_of right) + 1) (made_of right) made);
      group = group-IsIn n 0 (gifts_of right) gifts;
      bin = bin-IsIn n 0 (gifts_of right) gifts;
    }

parts_of-LieIn : (n : ℕ) (left : List Word) (command : Span) (right : List Word) → Follow n 0 left → (command.from ≤ command.to) × (command.to ≤ n) → Follow n 0 right → IfOk (parts_of left command right) (LieIn n)
parts_of-LieIn n left command right ins inside outs = by_test (inputs_stand (says_foreach left) (inputs_of left) && outputs_stand right)
  where
    by_test : (b : Bool) → IfOk (cond b (Ok (assembled (says_foreach left) (inputs_of left) command right)) (Err BadBrace)) (LieIn n)
    by_test true = assembled-LieIn n (says_foreach left) (inputs_of left) command right (inputs-Follow n left ins) inside outs
    by_test false = tt

-- the parts of a rule whose arrows stand apart and in its text
parts-LieIn : (text : List ℕ) (first second : ℕ) → (first + 2 ≤ second) × (second + 2 ≤ length text) → IfOk (parts_of (words 0 (take first text)) (trimmed_span (first + 2) (take (second - (first + 2)) (drop (first + 2) text))) (words (second + 2) (drop (second + 2) text))) (LieIn (length text))
parts-LieIn text first second (apart, within) =
    let n = length text in
    let middle = take (second - (first + 2)) (drop (first + 2) text) in
    let left : Follow n 0 (words 0 (take first text)) = words-Follow n 0 (take first text) (omega (arith, length-take first text)) in
    let right : Follow n (second + 2) (words (second + 2) (drop (second + 2) text)) = words-Follow n (second + 2) (drop (second + 2) text) (omega (arith, length-drop (second + 2) text)) in
    parts_of-LieIn n _ _ _ left
    (command-within n (first + 2) middle (omega (arith, length-take (second - (first + 2)) (drop (first + 2) text), length-drop (first + 2) text)))
    (lower-Follow n 0 (second + 2) (words (second + 2) (drop (second + 2) text)) (omega arith) right)

-- where the arrows stand
two-within : (text : List ℕ) (places : List ℕ) → MatchList text 2 0 places → IfSome (just_two places) (λ p. (p.0 + 2 ≤ p.1) × (p.1 + 2 ≤ length text))
two-within text [] h = tt
two-within text (first ∷ []) h = tt
two-within text (first ∷ second ∷ []) h =
    let one = MatchList-head text 2 0 first (first ∷ second ∷ []) (second ∷ []) refl h in
    let two = MatchList-head text 2 (first + 2) second (second ∷ []) [] refl one.2 in
    (two.0, two.1)
two-within text (first ∷ second ∷ third ∷ more) h = tt

pub arrows-within : (text : List ℕ) → IfSome (arrows text) (λ p. (p.0 + 2 ≤ p.1) × (p.1 + 2 ≤ length text))
arrows-within text = two-within text (matches text (124 ∷ 62 ∷ []) 0) (matches-list text (124 ∷ 62 ∷ []) 0)

-- all parts of a rule lie in its text
pub rule_parts-LieIn : (text : List ℕ) → IfOk (rule_parts text) (LieIn (length text))
rule_parts-LieIn text = by_arrows (arrows text) (arrows-within text)
  where
    by_arrows : (places : Option (ℕ × ℕ)) → IfSome places (λ p. (p.0 + 2 ≤ p.1) × (p.1 + 2 ≤ length text)) → IfOk (elim places as (λ _. Result Parts LexFault) [ Some p ↦ parts_of (words 0 (take p.0 text)) (trimmed_span (p.0 + 2) (take (p.1 - (p.0 + 2)) (drop (p.0 + 2) text))) (words (p.1 + 2) (drop (p.1 + 2) text)) | None ↦ Err NoArrow ]) (LieIn (length text))
    by_arrows (Some (first, second)) apart = parts-LieIn text first second apart
    by_arrows None _ = tt

pub result-LieIn : (r : Result Parts LexFault) (text : List ℕ) → (r ≡ Err Memory) ⊎ (r ≡ rule_parts text) → IfOk r (LieIn (length text))
result-LieIn r text h = ⊎_elim (λ (memory : r ≡ Err Memory). subst (λ x. IfOk x (LieIn (length text))) (sym memory) tt) (λ (parts : r ≡ rule_parts text). subst (λ x. IfOk x (LieIn (length text))) (sym parts) (rule_parts-LieIn text)) h
