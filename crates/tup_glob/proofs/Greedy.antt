-- Where the symbols before a run are put at the first place at which they fit, no match is lost.
use Rattle.std.proofs.Common.{◌≡◌, ℕ, suc, Bool, true, false, ◌&&◌, List, [], ◌∷◌, drop, Option, Some, None, is_some, if◌then◌else◌, refl, ap, sym, ◌∙◌, add-one}
use Rattle.std.proofs.lemmas.List.{drop-drop}
use Rattle.tup_glob.specs.declared.symbol.Symbol.{Symbol}
use Rattle.tup_glob.specs.declared.symbol.Symbol.TheVariants.{Char, Run, One, Set}
use Rattle.tup_glob.specs.Symbol.{accepts}
use Rattle.tup_glob.specs.Match.{first_rest, matches}
use Rattle.tup_glob.specs.Fit.{fit, behind_run, first_fit, match_left}

-- ---- whether symbols match, by what those before the first run leave
abbrev pub by_left : Option (List Symbol) → Option (List ℕ) → Bool
by_left others None = false
by_left others (Some left) = match_left others left

one_more : (b : Bool) (others : Option (List Symbol)) (rest : Option (List ℕ)) (m : Bool) → m ≡ by_left others rest → (b && m) ≡ by_left others (if b then rest else None)
one_more true others rest m e = e
one_more false others rest m e = refl

pub matches_by_left : (symbols : List Symbol) (name : List ℕ) → matches symbols name ≡ by_left (behind_run symbols) (fit symbols name)
matches_by_left [] [] = refl
matches_by_left [] (char ∷ rest) = refl
matches_by_left (Run ∷ more) name = refl
matches_by_left (Char own ∷ more) [] = refl
matches_by_left (One ∷ more) [] = refl
matches_by_left (Set negated members ∷ more) [] = refl
matches_by_left (Char own ∷ more) (char ∷ rest) = one_more (accepts (Char own) char) (behind_run more) (fit more rest) (matches more rest) (matches_by_left more rest)
matches_by_left (One ∷ more) (char ∷ rest) = one_more true (behind_run more) (fit more rest) (matches more rest) (matches_by_left more rest)
matches_by_left (Set negated members ∷ more) (char ∷ rest) = one_more (accepts (Set negated members) char) (behind_run more) (fit more rest) (matches more rest) (matches_by_left more rest)

-- ---- before a run the symbols take one character each
run_place : List Symbol → ℕ
run_place [] = 0
run_place (Run ∷ _) = 0
run_place (_ ∷ more) = suc (run_place more)

when_fits : (b : Bool) (rest : Option (List ℕ)) (left : List ℕ) → (if b then rest else None) ≡ Some left → rest ≡ Some left
when_fits true rest left e = e
when_fits false rest left e = cc

fit_leaves : (symbols others : List Symbol) (name left : List ℕ) → behind_run symbols ≡ Some others → fit symbols name ≡ Some left → left ≡ drop (run_place symbols) name
unfolding run_place
fit_leaves [] others name left run e = cc
fit_leaves (Run ∷ more) others name left run e = cc
fit_leaves (Char own ∷ more) others [] left run e = cc
fit_leaves (One ∷ more) others [] left run e = cc
fit_leaves (Set negated members ∷ more) others [] left run e = cc
fit_leaves (Char own ∷ more) others (char ∷ rest) left run e = fit_leaves more others rest left run (when_fits (accepts (Char own) char) (fit more rest) left e)
fit_leaves (One ∷ more) others (char ∷ rest) left run e = fit_leaves more others rest left run e
fit_leaves (Set negated members ∷ more) others (char ∷ rest) left run e = fit_leaves more others rest left run (when_fits (accepts (Set negated members) char) (fit more rest) left e)

-- ---- what nothing matches at one place, nothing matches at a later one
no_rest : (b : Bool) (text : List ℕ) (rest : Option (List ℕ)) → is_some (if b then Some text else rest) ≡ false → is_some rest ≡ false
no_rest true text rest e = cc
no_rest false text rest e = e

no_rest_behind : (test : List ℕ → Bool) (name : List ℕ) → is_some (first_rest test name) ≡ false → is_some (first_rest test (drop 1 name)) ≡ false
no_rest_behind test [] e = e
no_rest_behind test (char ∷ rest) e = no_rest (test (char ∷ rest)) (char ∷ rest) (first_rest test rest) e

no_match_here : (symbols others : List Symbol) (name : List ℕ) → behind_run symbols ≡ Some others → is_some (first_rest (matches others) (drop (run_place symbols) name)) ≡ false → matches symbols name ≡ false
no_match_here symbols others name run none =
    matches_by_left symbols name
    ∙ (elim (fit symbols name) as (λ o. fit symbols name ≡ o → by_left (behind_run symbols) o ≡ false) [
      | None ↦ λ e. refl
      | Some left ↦ λ e. ap (λ o. match_left o left) run ∙ ap (λ l. is_some (first_rest (matches others) l)) (fit_leaves symbols others name left run e) ∙ none
    ]) refl

no_match : (symbols others : List Symbol) (name : List ℕ) → behind_run symbols ≡ Some others → is_some (first_rest (matches others) (drop (run_place symbols) name)) ≡ false → first_rest (matches symbols) name ≡ None
no_match symbols others [] run none = ap (λ b. if b then Some [] else None) (no_match_here symbols others [] run none)
no_match symbols others (char ∷ rest) run none =
    let k = run_place symbols in
    let later : is_some (first_rest (matches others) (drop k rest)) ≡ false = ap (λ l. is_some (first_rest (matches others) l)) (sym (drop-drop 1 k (char ∷ rest) ∙ ap (λ n. drop n (char ∷ rest)) (add-one k))) ∙ no_rest_behind (matches others) (drop k (char ∷ rest)) none in
    ap (λ b. if b then Some (char ∷ rest) else first_rest (matches symbols) rest) (no_match_here symbols others (char ∷ rest) run none) ∙ no_match symbols others rest run later

-- ---- the first place at which the first symbols fit is the only one that has to be tried
abbrev pub if_match : Bool → List ℕ → Option (List ℕ)
if_match b place = if b then Some place else None

here_only : (symbols : List Symbol) (name left : List ℕ) → fit symbols name ≡ Some left → match_left (behind_run symbols) left ≡ false → first_rest (matches symbols) name ≡ None
here_only symbols name left e none =
    (elim (behind_run symbols) as (λ o. behind_run symbols ≡ o → match_left o left ≡ false → first_rest (matches symbols) name ≡ None) [
      | None ↦ λ run none. cc
      | Some others ↦ λ run none. no_match symbols others name run (ap (λ l. is_some (first_rest (matches others) l)) (sym (fit_leaves symbols others name left run e)) ∙ none)
    ]) refl none

matches_here : (symbols : List Symbol) (name left : List ℕ) → fit symbols name ≡ Some left → matches symbols name ≡ match_left (behind_run symbols) left
matches_here symbols name left e = matches_by_left symbols name ∙ ap (by_left (behind_run symbols)) e

matches_not_here : (symbols : List Symbol) (name : List ℕ) → fit symbols name ≡ None → matches symbols name ≡ false
matches_not_here symbols name e = matches_by_left symbols name ∙ ap (by_left (behind_run symbols)) e

first_match_here : (symbols : List Symbol) (char : ℕ) (rest left : List ℕ) (m : Bool) → fit symbols (char ∷ rest) ≡ Some left → match_left (behind_run symbols) left ≡ m →
    first_rest (matches symbols) (char ∷ rest) ≡ if_match m (char ∷ rest)
first_match_here symbols char rest left true e all = ap (λ b. if b then Some (char ∷ rest) else first_rest (matches symbols) rest) (matches_here symbols (char ∷ rest) left e ∙ all)
first_match_here symbols char rest left false e none = here_only symbols (char ∷ rest) left e none

first_match_step : (symbols : List Symbol) (char : ℕ) (rest place left : List ℕ) (fits : Option (List ℕ)) → fit symbols (char ∷ rest) ≡ fits →
    (if is_some fits then Some (char ∷ rest) else first_fit symbols rest) ≡ Some place → fit symbols place ≡ Some left →
    (first_fit symbols rest ≡ Some place → first_rest (matches symbols) rest ≡ if_match (match_left (behind_run symbols) left) place) →
    first_rest (matches symbols) (char ∷ rest) ≡ if_match (match_left (behind_run symbols) left) place
first_match_step symbols char rest place left None not found e later =
    ap (λ b. if b then Some (char ∷ rest) else first_rest (matches symbols) rest) (matches_not_here symbols (char ∷ rest) not) ∙ later found
first_match_step symbols char rest place left (Some other) here found e later =
    let same : char ∷ rest ≡ place = cc in
    first_match_here symbols char rest left (match_left (behind_run symbols) left) (ap (fit symbols) same ∙ e) refl ∙ ap (if_match (match_left (behind_run symbols) left)) same

only_place : (b : Bool) (name place : List ℕ) → (if b then Some name else None) ≡ Some place → name ≡ place
only_place true name place e = cc
only_place false name place e = cc

-- what the symbols match at the first place at which the first of them fit, they match at no place else
pub first_match : (symbols : List Symbol) (name place left : List ℕ) → first_fit symbols name ≡ Some place → fit symbols place ≡ Some left →
    first_rest (matches symbols) name ≡ if_match (match_left (behind_run symbols) left) place
first_match symbols [] place left found e =
    let same = only_place (is_some (fit symbols [])) [] place found in
    ap (λ b. if_match b []) (matches_here symbols [] left (ap (fit symbols) same ∙ e)) ∙ ap (if_match (match_left (behind_run symbols) left)) same
first_match symbols (char ∷ rest) place left found e =
    first_match_step symbols char rest place left (fit symbols (char ∷ rest)) refl found e (λ later. first_match symbols rest place left later e)

none_here : (fits : Option (List ℕ)) (name : List ℕ) (later : Option (List ℕ)) → (if is_some fits then Some name else later) ≡ None → (fits ≡ None) × (later ≡ None)
none_here None name later e = (refl, e)
none_here (Some left) name later e = absurd cc

-- where the first of them fit nowhere, the symbols match nothing
pub first_match_none : (symbols : List Symbol) (name : List ℕ) → first_fit symbols name ≡ None → first_rest (matches symbols) name ≡ None
first_match_none symbols [] none =
    ap (λ b. if_match b []) (matches_not_here symbols [] (none_here (fit symbols []) [] None none).0)
first_match_none symbols (char ∷ rest) none =
    let both = none_here (fit symbols (char ∷ rest)) (char ∷ rest) (first_fit symbols rest) none in
    ap (λ b. if b then Some (char ∷ rest) else first_rest (matches symbols) rest) (matches_not_here symbols (char ∷ rest) both.0) ∙ first_match_none symbols rest both.1

pub is_some-if_match : (b : Bool) (place : List ℕ) → is_some (if_match b place) ≡ b
is_some-if_match true place = refl
is_some-if_match false place = refl

-- a whole text that passes is the longest rest that does
pub rest_here : (test : List ℕ → Bool) (name : List ℕ) → test name ≡ true → first_rest test name ≡ Some name
rest_here test [] passes = ap (λ b. if b then Some [] else None) passes
rest_here test (char ∷ rest) passes = ap (λ b. if b then Some (char ∷ rest) else first_rest test rest) passes
