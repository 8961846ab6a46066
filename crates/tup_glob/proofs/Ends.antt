-- The last symbol of a glob stands for the last character of each name that it matches, or is a run.
use Rattle.std.proofs.Common.{◌≡◌, ℕ, ◌-◌, zero, suc, Bool, true, false, ◌&&◌, List, [], ◌∷◌, ◌++◌, length, Option, Some, None, is_some, if◌then◌else◌, refl, sym, ap, ◌∙◌, arith}
use Rattle.std.specs.Prelude.{slice_get}
use Rattle.std.specs.List.{last_or}
use Rattle.std.proofs.lemmas.Bool.{and_parts, true≢false, false≢true}
use Rattle.tup_glob.specs.declared.symbol.Symbol.{Symbol}
use Rattle.tup_glob.specs.declared.symbol.Symbol.TheVariants.{Char, Run, One, Set}
use Rattle.tup_glob.specs.Symbol.{accepts}
use Rattle.tup_glob.specs.Match.{first_rest, matches}

-- whether the last of some symbols, if there is one, accepts the last of some characters, if there is one
abbrev pub end_fits : Option Symbol → Option ℕ → Bool
end_fits None last = true
end_fits (Some symbol) None = true
end_fits (Some symbol) (Some char) = accepts symbol char

run_fits : (last : Option ℕ) → end_fits (Some Run) last ≡ true
run_fits None = refl
run_fits (Some char) = refl

-- ---- behind a run
one_place : (b : Bool) (text : List ℕ) (rest : Option (List ℕ)) (G : Type 0) → (b ≡ true → G) → (is_some rest ≡ true → G) → is_some (if b then Some text else rest) ≡ true → G
one_place true text rest G here later e = here refl
one_place false text rest G here later e = later e

run_end : (more : List Symbol) → ((name : List ℕ) (before : Option ℕ) → matches more name ≡ true → end_fits (last_or None more) (last_or before name) ≡ true)
    → (name : List ℕ) (before : Option ℕ) → is_some (first_rest (matches more) name) ≡ true → end_fits (last_or (Some Run) more) (last_or before name) ≡ true
run_end [] fits name before is = run_fits (last_or before name)
run_end (symbol ∷ more) fits [] before is =
    one_place (matches (symbol ∷ more) []) [] None (end_fits (last_or (Some symbol) more) before ≡ true) (fits [] before) (λ none. absurd (false≢true none)) is
run_end (symbol ∷ more) fits (char ∷ rest) before is =
    one_place (matches (symbol ∷ more) (char ∷ rest)) (char ∷ rest) (first_rest (matches (symbol ∷ more)) rest) (end_fits (last_or (Some symbol) more) (last_or (Some char) rest) ≡ true)
    (fits (char ∷ rest) before) (λ later. run_end (symbol ∷ more) fits rest (Some char) later) is

-- ---- behind a symbol that takes one character
one_end : (symbol : Symbol) (more : List Symbol) (char : ℕ) (rest : List ℕ) → ((before : Option ℕ) → matches more rest ≡ true → end_fits (last_or None more) (last_or before rest) ≡ true)
    → (accepts symbol char && matches more rest) ≡ true → end_fits (last_or (Some symbol) more) (last_or (Some char) rest) ≡ true
one_end symbol [] char [] fits is = (and_parts (accepts symbol char) true is).0
one_end symbol [] char (next ∷ rest) fits is = absurd (false≢true (and_parts (accepts symbol char) false is).1)
one_end symbol (second ∷ more) char rest fits is = fits (Some char) (and_parts (accepts symbol char) (matches (second ∷ more) rest) is).1

-- ---- the last symbol and the last character, whatever stands before the name
matched_end : (symbols : List Symbol) (name : List ℕ) (before : Option ℕ) → matches symbols name ≡ true → end_fits (last_or None symbols) (last_or before name) ≡ true
matched_end [] name before is = refl
matched_end (Run ∷ more) name before is = run_end more (λ some first. matched_end more some first) name before is
matched_end (Char own ∷ more) [] before is = absurd (false≢true is)
matched_end (One ∷ more) [] before is = absurd (false≢true is)
matched_end (Set negated members ∷ more) [] before is = absurd (false≢true is)
matched_end (Char own ∷ more) (char ∷ rest) before is = one_end (Char own) more char rest (λ first. matched_end more rest first) is
matched_end (One ∷ more) (char ∷ rest) before is = one_end One more char rest (λ first. matched_end more rest first) is
matched_end (Set negated members ∷ more) (char ∷ rest) before is = one_end (Set negated members) more char rest (λ first. matched_end more rest first) is

-- ---- the last of a list, as code has it
last_at : {A : Type 0} (xs : List A) (n : ℕ) (before : Option A) (x : A) → length xs ≡ suc n → slice_get xs n ≡ Some x → last_or before xs ≡ Some x
last_at [] n before x long e = absurd (omega (arith, long))
last_at (first ∷ []) zero before x long e = e
last_at (first ∷ []) (suc n) before x long e = absurd (omega (arith, long))
last_at (first ∷ second ∷ more) zero before x long e = absurd (omega (arith, long))
last_at (first ∷ second ∷ more) (suc n) before x long e = last_at (second ∷ more) n (Some first) x (omega (arith, long)) e

last_got : {A : Type 0} (xs : List A) (before : Option A) (x : A) → slice_get xs (length xs - 1) ≡ Some x → last_or before xs ≡ Some x
last_got [] before x e = cc
last_got (first ∷ more) before x e = last_at (first ∷ more) (length (first ∷ more) - 1) before x (omega arith) e

last_behind : {A : Type 0} (xs : List A) (before : Option A) (x : A) → last_or before (xs ++ x ∷ []) ≡ Some x
last_behind [] before x = refl
last_behind (first ∷ more) before x = last_behind more (Some first) x

not_matched : (b : Bool) (fits : Bool) → (b ≡ true → fits ≡ true) → fits ≡ false → b ≡ false
not_matched true fits only off = absurd (true≢false (sym (only refl) ∙ off))
not_matched false fits only off = refl

-- a name whose last character the last symbol doesn't accept isn't matched
pub ends_otherwise : (symbols : List Symbol) (name : List ℕ) (symbol : Symbol) (front : List ℕ) (char : ℕ) → slice_get symbols (length symbols - 1) ≡ Some symbol → name ≡ front ++ char ∷ [] → accepts symbol char ≡ false
    → matches symbols name ≡ false
ends_otherwise symbols name symbol front char last is off =
    not_matched (matches symbols name) (accepts symbol char)
    (λ yes. sym (ap (λ (s : Option Symbol). end_fits s (last_or None name)) (last_got symbols None symbol last) ∙ ap (end_fits (Some symbol)) (ap (last_or None) is ∙ last_behind front None char)) ∙ matched_end symbols name None yes)
    off
