-- joined lines cover the lines of the file
use Rattle.std.proofs.Common.{◌≡◌, ℕ, ◌+◌, Bool, true, false, cond, List, [], ◌∷◌, ◌++◌, length, refl, sym, ap, ◌∙◌, append-nil, arith}
use Rattle.tup_lex.specs.Line.{line, line_number, numbered, goes_on, unbroken, onto_next, joined}
use Rattle.tup_lex.specs.Covers.{IsRun, Covers}
use Rattle.tup_lex.specs.declared.line.Line.{Line}

longer-IsRun : (text : List ℕ) (run rest : List (List ℕ)) → goes_on text ≡ true → IsRun run rest → IsRun (text ∷ run) rest
longer-IsRun text [] rest goes h = absurd h
longer-IsRun text (next ∷ more) rest goes h = (goes, h)

-- a line that goes on, before lines that cover the rest
onto_next-Covers : (before : ℕ) (text : List ℕ) (all : List Line) (texts : List (List ℕ)) → goes_on text ≡ true → Covers (before + 1) all texts → Covers before (onto_next (line_number before) (unbroken text) all) (text ∷ texts)
onto_next-Covers before text [] texts goes h = (text ∷ [], texts, refl, λ _. h, refl, sym (append-nil (unbroken text)), h)
onto_next-Covers before text (next ∷ more) texts goes (run, rest, parts, is_run, number, is_text, covers) =
    let count : before + length (text ∷ run) ≡ before + 1 + length run = omega arith in
    (text ∷ run, rest, ap (λ t. text ∷ t) parts, longer-IsRun text run rest goes is_run, refl, ap (λ t. unbroken text ++ t) is_text, rw count covers)

-- a line before lines that cover the rest, whether it goes on or not
one-Covers : (before : ℕ) (text : List ℕ) (all : List Line) (texts : List (List ℕ)) (b : Bool) → goes_on text ≡ b → Covers (before + 1) all texts → Covers before (cond b (onto_next (line_number before) (unbroken text) all) (line (line_number before) text ∷ all)) (text ∷ texts)
one-Covers before text all texts true goes h = onto_next-Covers before text all texts goes h
one-Covers before text all texts false stays h =
    let same : unbroken text ≡ text = rw (stays, unbroken) refl in
    (text ∷ [], texts, refl, λ goes. absurd (cc), refl, sym (append-nil (unbroken text) ∙ same), h)

pub joined-Covers : (before : ℕ) (texts : List (List ℕ)) → Covers before (joined (numbered before texts)) texts
joined-Covers before [] = refl
joined-Covers before (text ∷ texts) = one-Covers before text (joined (numbered (before + 1) texts)) texts (goes_on text) refl (joined-Covers (before + 1) texts)
