-- lines joined one after another, as the loop takes them
use Rattle.std.proofs.Common.{◌≡◌, ℕ, ◌+◌, ◌-◌, ◌<◌, ◌≤◌, Bool, true, false, cond, min, List, [], ◌∷◌, ◌++◌, length, take, drop, get_or, Option, Some, None, Result, Ok, Err, refl, sym, ap, ◌∙◌, append_assoc, append-nil, arith, length-append, ◌≢◌, suc}
use Rattle.std.specs.List.{filter, flat_map, slice_get}
use Rattle.std.proofs.Math.Seq.{get_or-append_seam, take-append_seam, drop-cons}
use Rattle.std.proofs.lemmas.List.{take-append-drop, at_drop_more, drop_all, at_drop_all}
use Rattle.std.proofs.lemmas.Bool.Decides.{nat_tests}
use Rattle.tup_lex.specs.Line.{line, line_number, numbered, goes_on, unbroken, onto_next, joined, is_long, is_too_long, told, said}
use Rattle.tup_lex.specs.declared.fault.LexFault.{LexFault}
use Rattle.tup_lex.specs.declared.fault.LexFault.TheVariants.{LineTooLong}
use Rattle.tup_lex.specs.declared.line.Line.{Line}

-- what was kept before, and what is said after it
abbrev pub after : List Line → Result (List Line) LexFault → Result (List Line) LexFault
after kept (Ok more) = Ok (kept ++ more)
after kept (Err fault) = Err fault

pub after-after : (a b : List Line) (r : Result (List Line) LexFault) → after a (after b r) ≡ after (a ++ b) r
after-after a b (Ok more) = ap Ok (sym (append_assoc a b more))
after-after a b (Err fault) = refl

-- one line more in front
pub said-long : (one : Line) (more : List Line) → is_long one.text ≡ true → said (one ∷ more) ≡ Err (LineTooLong one.number)
said-long one more h = rw (h, said) refl

pub said-fits : (one : Line) (more : List Line) → is_long one.text ≡ false → said (one ∷ more) ≡ after (told one) (said more)
said-fits one more h =
    rw (h, said) (by_first (slice_get (filter is_too_long more) 0))
  where
    by_first : (r : Option Line) → (elim r as (λ _. Result (List Line) LexFault) [ Some long ↦ Err (LineTooLong long.number) | None ↦ Ok (told one ++ flat_map told more) ]) ≡ after (told one) (elim r as (λ _. Result (List Line) LexFault) [ Some long ↦ Err (LineTooLong long.number) | None ↦ Ok (flat_map told more) ])
    by_first (Some long) = refl
    by_first None = refl

-- a line that goes on twice
pub onto_next-onto_next : (n m : ℕ) (a b : List ℕ) (more : List Line) → onto_next n a (onto_next m b more) ≡ onto_next n (a ++ b) more
onto_next-onto_next n m a b [] = refl
onto_next-onto_next n m a b (next ∷ more) = ap (λ text. line n text ∷ more) (sym (append_assoc a b next.text))

-- an empty front changes nothing of what is said
pub fresh : (n : ℕ) (texts : List (List ℕ)) → said (onto_next (line_number n) [] (joined (numbered n texts))) ≡ said (joined (numbered n texts))
fresh n [] = refl
fresh n (text ∷ more) = by_end (goes_on text) (joined (numbered (n + 1) more))
  where
    by_end : (b : Bool) (rest : List Line) → said (onto_next (line_number n) [] (cond b (onto_next (line_number n) (unbroken text) rest) (line (line_number n) text ∷ rest))) ≡ said (cond b (onto_next (line_number n) (unbroken text) rest) (line (line_number n) text ∷ rest))
    by_end true [] = refl
    by_end true (next ∷ rest) = refl
    by_end false rest = refl

-- a text that ends in a backslash goes on, and no other
pub goes_on-push : (front : List ℕ) → goes_on (front ++ 92 ∷ []) ≡ true
goes_on-push front =
    let len : length (front ++ 92 ∷ []) - 1 ≡ length front = omega (arith, length-append front (92 ∷ [])) in
    rw len (rw get_or-append_seam refl)

front-push : (front : List ℕ) → take (length (front ++ 92 ∷ []) - 1) (front ++ 92 ∷ []) ≡ front
front-push front =
    let len : length (front ++ 92 ∷ []) - 1 ≡ length front = omega (arith, length-append front (92 ∷ [])) in
    rw len (take-append_seam front (92 ∷ []))

last_in : (text : List ℕ) → goes_on text ≡ true → 0 < length text
last_in [] h = cc
last_in (b ∷ text) h = omega arith

pub ends : (text : List ℕ) → goes_on text ≡ true → text ≡ take (length text - 1) text ++ 92 ∷ []
ends text h =
    let k = length text - 1 in
    let some : 0 < length text = last_in text h in
    let last : get_or text k 0 ≡ 92 = grind (arith, nat_tests) in
    let end : drop (suc k) text ≡ [] = drop_all (suc k) text (omega arith) in
    let parts : drop k text ≡ 92 ∷ [] = drop-cons text k 0 (omega arith) ∙ rw (last, end) refl in
    sym (take-append-drop k text) ∙ rw parts refl

pub not_goes_on : (text : List ℕ) → ((front : List ℕ) → text ≢ front ++ 92 ∷ []) → goes_on text ≡ false
not_goes_on text h = by_case (goes_on text) refl
  where
    by_case : (b : Bool) → goes_on text ≡ b → b ≡ false
    by_case true e = absurd (h _ (ends text e))
    by_case false e = refl

-- the next line of the file goes on
pub joined-goes_on : (first n : ℕ) (begun front text : List ℕ) (texts : List (List ℕ)) → n < length texts → text ≡ get_or texts n text → text ≡ front ++ 92 ∷ [] → onto_next first begun (joined (numbered n (drop n texts))) ≡ onto_next first (begun ++ front) (joined (numbered (n + 1) (drop (n + 1) texts)))
joined-goes_on first n begun front text texts h is e =
    let more = joined (numbered (n + 1) (drop (n + 1) texts)) in
    let goes : goes_on text ≡ true = rw e (goes_on-push front) in
    let cut : take (length text - 1) text ≡ front = rw e (front-push front) in
    at_drop_more (λ rest. onto_next first begun (joined (numbered n rest))) texts n text h
    ∙ rw (← is) (rw (goes, cut) (onto_next-onto_next first (line_number n) begun front more))

-- it doesn't
pub joined-ends : (first n : ℕ) (begun text : List ℕ) (texts : List (List ℕ)) → n < length texts → text ≡ get_or texts n text → goes_on text ≡ false → onto_next first begun (joined (numbered n (drop n texts))) ≡ line first (begun ++ text) ∷ joined (numbered (n + 1) (drop (n + 1) texts))
joined-ends first n begun text texts h is stays =
    at_drop_more (λ rest. onto_next first begun (joined (numbered n rest))) texts n text h ∙ rw (← is) (rw stays refl)

-- what is kept and begun before the n-th line of the file, and all that is said with what follows
abbrev pub So : List (List ℕ) → List Line → ℕ → List ℕ → ℕ → Type 0
So texts kept first begun n = said (joined (numbered 0 texts)) ≡ after kept (said (onto_next first begun (joined (numbered n (drop n texts)))))

pub So-same : (texts : List (List ℕ)) {kept kept' : List Line} {first first' : ℕ} {begun begun' : List ℕ} {n n' : ℕ} → So texts kept first begun n → kept' ≡ kept → first' ≡ first → begun' ≡ begun → n' ≡ n → So texts kept' first' begun' n'
So-same texts so k f b n = rw (k, f, b, n) so

-- over one more line of the file
module _ (texts : List (List ℕ)) (kept : List Line) (first n : ℕ) (begun text : List ℕ) (h : n < length texts) (is : text ≡ get_or texts n text) where
  pub so-goes_on : So texts kept first begun n → (front new : List ℕ) → text ≡ front ++ 92 ∷ [] → new ≡ begun ++ front → So texts kept first new (n + 1)
  so-goes_on so front new e is_new = so ∙ ap (λ all. after kept (said all)) (joined-goes_on first n begun front text texts h is e) ∙ rw (← is_new) refl

  pub so-long : So texts kept first begun n → (new : List ℕ) → goes_on text ≡ false → new ≡ begun ++ text → is_long new ≡ true → said (joined (numbered 0 texts)) ≡ Err (LineTooLong first)
  so-long so new stays is_new long =
      so ∙ ap (λ all. after kept (said all)) (joined-ends first n begun text texts h is stays)
      ∙ ap (λ t. after kept (said (line first t ∷ joined (numbered (n + 1) (drop (n + 1) texts))))) (sym is_new)
      ∙ ap (after kept) (said-long (line first new) (joined (numbered (n + 1) (drop (n + 1) texts))) long)

  pub so-fits : So texts kept first begun n → (new : List ℕ) → goes_on text ≡ false → new ≡ begun ++ text → is_long new ≡ false → So texts (kept ++ told (line first new)) (line_number (n + 1)) [] (n + 1)
  so-fits so new stays is_new fits =
      let rest = drop (n + 1) texts in
      so ∙ ap (λ all. after kept (said all)) (joined-ends first n begun text texts h is stays)
      ∙ ap (λ t. after kept (said (line first t ∷ joined (numbered (n + 1) rest)))) (sym is_new)
      ∙ ap (after kept) (said-fits (line first new) (joined (numbered (n + 1) rest)) fits)
      ∙ after-after kept (told (line first new)) (said (joined (numbered (n + 1) rest)))
      ∙ ap (after (kept ++ told (line first new))) (sym (fresh (n + 1) rest))

-- and at the end of the file
pub end-fits : (texts : List (List ℕ)) (kept : List Line) (first n : ℕ) (begun : List ℕ) → length texts ≤ n → So texts kept first begun n → is_long begun ≡ false → said (joined (numbered 0 texts)) ≡ Ok (kept ++ told (line first begun))
end-fits texts kept first n begun end so fits =
    so ∙ at_drop_all (λ rest. after kept (said (onto_next first begun (joined (numbered n rest))))) texts n end
    ∙ ap (after kept) (said-fits (line first begun) [] fits) ∙ ap (λ t. Ok (kept ++ t)) (append-nil (told (line first begun)))

-- at its beginning
pub so-begins : (texts : List (List ℕ)) → So texts [] 1 [] 0
so-begins texts = by_answer (said (joined (numbered 0 texts))) ∙ ap (after []) (sym (fresh 0 texts))
  where
    by_answer : (r : Result (List Line) LexFault) → r ≡ after [] r
    by_answer (Ok all) = refl
    by_answer (Err fault) = refl

pub next_number : (number n : ℕ) → number ≡ line_number n → min (number + 1) 4294967295 ≡ line_number (n + 1)
next_number number n e = omega arith
