-- words cut off one after another
use Rattle.std.proofs.Common.{◌≡◌, ℕ, ◌+◌, ◌-◌, ◌<◌, ◌≤◌, true, false, List, [], ◌∷◌, ◌++◌, length, take, drop, get_or, sym, ap, ◌∙◌, append_assoc, arith, suc, length-drop, drop-cons, length-take, ⊎_elim}
use Rattle.std.proofs.lemmas.Bool.{cases_lt}
use Rattle.std.specs.List.{filter, slice_split, All}
use Rattle.std.proofs.lemmas.List.{take_all, drop-drop, take-append-drop, get_or-take, get_or-drop}
use Rattle.std.proofs.lemmas.List.Elements.{All-from_get_or, filter-append}
use Rattle.std.proofs.lemmas.List.Splits.{slice_split_at, slice_split_none}
use Rattle.tup_lex.specs.Blank.{is_blank}
use Rattle.tup_lex.specs.Word.{Word, words, placed, is_some_word}

-- no byte from one place up to another is blank
abbrev pub NoBlank : List ℕ → ℕ → ℕ → Type 0
NoBlank part start end = (k : ℕ) → start ≤ k → k < end → is_blank (get_or part k 0) ≡ false

-- the words of two pieces and a blank between them
words-blank : (at : ℕ) (piece : List ℕ) (blank : ℕ) (rest : List ℕ) → All (λ b. is_blank b ≡ false) piece → is_blank blank ≡ true → words at (piece ++ blank ∷ rest) ≡ filter is_some_word ((at, piece) ∷ []) ++ words (at + length piece + 1) rest
words-blank at piece blank rest none h =
    ap (λ pieces. filter is_some_word (placed at pieces)) (slice_split_at is_blank piece blank rest none h)
    ∙ filter-append is_some_word ((at, piece) ∷ []) (placed (at + length piece + 1) (slice_split is_blank rest))

all_from : (part : List ℕ) (start end : ℕ) → start ≤ end → end ≤ length part → NoBlank part start end → All (λ b. is_blank b ≡ false) (take (end - start) (drop start part))
all_from part start end order within none =
    let rest = drop start part in
    let len : length (take (end - start) rest) ≡ end - start = omega (arith, length-take (end - start) rest, length-drop start part) in
    All-from_get_or (λ b. is_blank b ≡ false) (take (end - start) rest) 0 (λ i h.
    let low : i < end - start = omega arith in
    rw (get_or-take (end - start) rest i 0 low, get_or-drop start part i 0) (none (start + i) (omega arith) (omega arith)))

-- what is left at a place is what stands before a later one, the byte there, and the rest
cut : (part : List ℕ) (start end : ℕ) → start ≤ end → end < length part → drop start part ≡ take (end - start) (drop start part) ++ get_or part end 0 ∷ drop (end + 1) part
cut part start end order within =
    let sum : start + (end - start) ≡ end = omega arith in
    let next : suc end ≡ end + 1 = omega arith in
    let there : drop (end - start) (drop start part) ≡ get_or part end 0 ∷ drop (end + 1) part =
    drop-drop (end - start) start part ∙ ap (λ n. drop n part) sum ∙ drop-cons part end 0 within ∙ ap (λ n. get_or part end 0 ∷ drop n part) next in
    sym (take-append-drop (end - start) (drop start part)) ∙ ap (λ t. take (end - start) (drop start part) ++ t) there

-- a blank ends the word that began at a place
pub words-step : (at : ℕ) (part : List ℕ) (start end : ℕ) → start ≤ end → end < length part → NoBlank part start end → is_blank (get_or part end 0) ≡ true → words (at + start) (drop start part) ≡ filter is_some_word ((at + start, take (end - start) (drop start part)) ∷ []) ++ words (at + (end + 1)) (drop (end + 1) part)
words-step at part start end order within none h =
    let piece = take (end - start) (drop start part) in
    let len : length piece ≡ end - start = omega (arith, length-take (end - start) (drop start part), length-drop start part) in
    let next : at + start + length piece + 1 ≡ at + (end + 1) = omega arith in
    ap (words (at + start)) (cut part start end order within)
    ∙ words-blank (at + start) piece (get_or part end 0) (drop (end + 1) part) (all_from part start end order (omega arith) none) h
    ∙ ap (λ n. filter is_some_word ((at + start, piece) ∷ []) ++ words n (drop (end + 1) part)) next

-- and so does the end of the part
pub words-end : (at : ℕ) (part : List ℕ) (start : ℕ) → start ≤ length part → NoBlank part start (length part) → words (at + start) (drop start part) ≡ filter is_some_word ((at + start, drop start part) ∷ [])
words-end at part start order none =
    let rest = drop start part in
    let len : length rest ≡ length part - start = length-drop start part in
    let all : All (λ b. is_blank b ≡ false) rest = All-from_get_or (λ b. is_blank b ≡ false) rest 0 (λ i h. rw (get_or-drop start part i 0) (none (start + i) (omega arith) (omega arith))) in
    ap (λ pieces. filter is_some_word (placed (at + start) pieces)) (slice_split_none is_blank rest all)

pub more-NoBlank : (part : List ℕ) (start end : ℕ) → NoBlank part start end → is_blank (get_or part end 0) ≡ false → NoBlank part start (end + 1)
more-NoBlank part start end none here k low high = ⊎_elim
    (λ (h : k < end). none k low h)
    (λ (h : end ≤ k). let same : k ≡ end = omega arith in rw same here)
    (cases_lt k end)

pub none-NoBlank : (part : List ℕ) (n : ℕ) → NoBlank part n n
none-NoBlank part n k low high = absurd (omega arith)

-- the words so far, and the place where the next one begins
abbrev pub So : ℕ → List ℕ → List Word → ℕ → ℕ → Type 0
So at part all start end = (start ≤ end) × (words at part ≡ all ++ words (at + start) (drop start part)) × NoBlank part start end

pub so-blank : (at : ℕ) (part : List ℕ) (all new : List Word) (start end : ℕ) → So at part all start end → end < length part → is_blank (get_or part end 0) ≡ true → new ≡ all ++ filter is_some_word ((at + start, take (end - start) (drop start part)) ∷ []) → So at part new (end + 1) (end + 1)
so-blank at part all new start end so within h is_new =
    let one = filter is_some_word ((at + start, take (end - start) (drop start part)) ∷ []) in
    let rest = words (at + (end + 1)) (drop (end + 1) part) in (
      omega arith,
      so.1 ∙ ap (λ t. all ++ t) (words-step at part start end so.0 within so.2 h) ∙ sym (append_assoc all one rest) ∙ ap (λ t. t ++ rest) (sym is_new),
      none-NoBlank part (end + 1),
    )

pub so-other : (at : ℕ) (part : List ℕ) (all : List Word) (start end : ℕ) → So at part all start end → is_blank (get_or part end 0) ≡ false → So at part all start (end + 1)
so-other at part all start end so h = (omega arith, so.1, more-NoBlank part start end so.2 h)

pub so-end : (at : ℕ) (part : List ℕ) (all new : List Word) (start end : ℕ) → So at part all start end → end ≡ length part → new ≡ all ++ filter is_some_word ((at + start, take (length part - start) (drop start part)) ∷ []) → new ≡ words at part
so-end at part all new start end so whole is_new =
    let len : length (drop start part) ≡ length part - start = length-drop start part in
    let all_left : take (length part - start) (drop start part) ≡ drop start part = take_all (length part - start) (drop start part) (omega arith) in
    let none : NoBlank part start (length part) = rw (← whole) so.2 in
    is_new ∙ rw all_left (ap (λ t. all ++ t) (sym (words-end at part start (omega arith) none))) ∙ sym so.1
