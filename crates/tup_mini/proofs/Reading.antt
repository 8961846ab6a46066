-- What the words of a command say: an arrow before the last of them, and the number that a word names.
use Rattle.std.proofs.Common.{◌≡◌, ℕ, suc, zero, ◌+◌, ◌-◌, ◌<◌, ◌≤◌, Bool, true, false, ◌&&◌, ltb, List, [], ◌∷◌, length, take, get_or, Option, Some, None, option_map, Result, Ok, Err, codes, bytes_eq, refl, ap, ◌∙◌, if◌then◌else◌, arith, rules}
use Rattle.std.proofs.lemmas.Bool.{lt-ltb, ltb-true}
use Rattle.std.proofs.lemmas.Str.Parse.{IsNumeralModel, numerals_by_fold, parse_plain}
use Rattle.std.specs.List.{list_all}
use Rattle.std.specs.Result.{result_unwrap_or}
use Rattle.std.specs.Str.Parse.{ParsesUnsigned}
use Rattle.tup_path.proofs.Same.{same_bytes-decides, differs}
use Rattle.tup_mini.specs.Steps.{step_of}
use Rattle.tup_mini.specs.declared.step.MiniStep.TheVariants as steps
use Rattle.tup_mini.specs.Words.{is_arrow, has_stray_arrow, redirected, is_digit, decimal_value, status_of}

with_first : (b : Bool) (word : List ℕ) (from : List (List ℕ)) (to : List ℕ) (r : Option (List (List ℕ) × List ℕ)) → r ≡ (if b then Some (from, to) else None)
    → option_map {U = List (List ℕ) × List ℕ} (λ (p : List (List ℕ) × List ℕ). (word ∷ p.0, p.1)) r ≡ (if b then Some (word ∷ from, to) else None)
with_first true word from to r e = rw e refl
with_first false word from to r e = rw e refl

redirected_at : (words : List (List ℕ)) (n : ℕ) (arrow to : List ℕ) → n + 2 ≡ length words → arrow ≡ get_or words n arrow → to ≡ get_or words (suc n) to
    → redirected words ≡ (if is_arrow arrow then Some (take n words, to) else None)
redirected_at [] n arrow to e a t = absurd (omega arith)
redirected_at (word ∷ []) n arrow to e a t = absurd (omega arith)
redirected_at (word ∷ next ∷ []) zero arrow to e a t = rw (a, t) refl
redirected_at (word ∷ next ∷ []) (suc n) arrow to e a t = absurd (omega arith)
redirected_at (word ∷ next ∷ more ∷ rest) zero arrow to e a t = absurd (omega arith)
redirected_at (word ∷ next ∷ more ∷ rest) (suc n) arrow to e a t =
    with_first (is_arrow arrow) word (take n (next ∷ more ∷ rest)) to _ (redirected_at (next ∷ more ∷ rest) n arrow to (omega arith) a t)

at_end : (words : List (List ℕ)) (arrow to : List ℕ) → 2 ≤ length words → arrow ≡ get_or words (length words - 2) arrow → to ≡ get_or words (length words - 1) to
    → redirected words ≡ (if is_arrow arrow then Some (take (length words - 2) words, to) else None)
at_end words arrow to long a t =
    let last : length words - 1 ≡ suc (length words - 2) = omega arith in
    redirected_at words (length words - 2) arrow to (omega arith) a (rw (← last) t)

abbrev found : List (List ℕ) → List ℕ → Bool → Option (List (List ℕ) × List ℕ)
found from to b = if b then Some (from, to) else None

pub redirected-yes : (words : List (List ℕ)) (arrow to : List ℕ) → 2 ≤ length words → arrow ≡ get_or words (length words - 2) arrow → to ≡ get_or words (length words - 1) to
    → is_arrow arrow ≡ true → redirected words ≡ Some (take (length words - 2) words, to)
redirected-yes words arrow to long a t is = at_end words arrow to long a t ∙ ap (found (take (length words - 2) words) to) is

pub redirected-no : (words : List (List ℕ)) (arrow to : List ℕ) → 2 ≤ length words → arrow ≡ get_or words (length words - 2) arrow → to ≡ get_or words (length words - 1) to
    → is_arrow arrow ≡ false → redirected words ≡ None
redirected-no words arrow to long a t is = at_end words arrow to long a t ∙ ap (found (take (length words - 2) words) to) is

pub redirected-short : (words : List (List ℕ)) → length words < 2 → redirected words ≡ None
redirected-short [] l = refl
redirected-short (word ∷ []) l = refl
redirected-short (word ∷ next ∷ rest) l = absurd (omega arith)

numeral : IsNumeralModel (λ digits. list_all is_digit digits ≡ true) (decimal_value 0)
numeral = numerals_by_fold _ (search rules) decimal_value (search rules)

-- the test of `status_of`
passes : (all first small : Bool) (n : ℕ) → all ≡ true → first ≡ true → small ≡ true → n ≡ (if all && first && small then n else 2)
passes true true true n a f s = refl
passes false first small n a f s = absurd (cc)
passes true false small n a f s = absurd (cc)
passes true true false n a f s = absurd (cc)

fails : (all first small : Bool) (n : ℕ) → ¬ ((all ≡ true) × (small ≡ true)) → 2 ≡ (if all && first && small then n else 2)
fails true true true n wrong = absurd (wrong (refl, refl))
fails false first small n wrong = refl
fails true false small n wrong = refl
fails true true false n wrong = refl

-- the number that was parsed, or 2, is the status that a word names
pub status_parsed : {E : Type 0} (word : List ℕ) (r : Result ℕ E) → ParsesUnsigned 8 10 word r → 1 ≤ length word → 49 ≤ get_or word 0 0 → get_or word 0 0 ≤ 57
    → result_unwrap_or r 2 ≡ status_of word
status_parsed [] r parsed some low high = absurd (omega arith)
status_parsed {E = E} (first ∷ word) (Ok n) parsed some low high =
    let p = parse_plain numeral {E = E} 8 (first ∷ word) (Ok n) parsed (omega arith) in
    p.1 ∙ passes (list_all is_digit (first ∷ word)) (ltb 48 first) (ltb (decimal_value 0 (first ∷ word)) 256) (decimal_value 0 (first ∷ word)) p.0.0 (lt-ltb 48 first low) (lt-ltb _ 256 p.0.2)
status_parsed {E = E} (first ∷ word) (Err fault) parsed some low high =
    let p = parse_plain numeral {E = E} 8 (first ∷ word) (Err fault) parsed (omega arith) in
    fails (list_all is_digit (first ∷ word)) (ltb 48 first) (ltb (decimal_value 0 (first ∷ word)) 256) (decimal_value 0 (first ∷ word)) (λ both. p (both.0, omega arith, ltb-true _ 256 both.1))

-- a first word that names no step
pub unknown-at : (words : List (List ℕ)) (name text : List ℕ) → 1 ≤ length words → name ≡ get_or words 0 name → text ≡ name → has_stray_arrow words ≡ false → (text ≡ codes "cp" → ⊥) → (text ≡ codes "cat" → ⊥)
    → (text ≡ codes "echo" → ⊥) → (text ≡ codes "incl" → ⊥) → (text ≡ codes "ifexists" → ⊥) → (text ≡ codes "fail" → ⊥) → steps.Stop 127 ≡ step_of words
unknown-at [] name text some is same stray a b c d e f = absurd (omega arith)
unknown-at (word ∷ words) name text some is same stray a b c d e f =
    rw (stray, other (codes "cp") a, other (codes "cat") b, other (codes "echo") c, other (codes "incl") d, other (codes "ifexists") e, other (codes "fail") f) refl
  where
    other : (known : List ℕ) → (text ≡ known → ⊥) → bytes_eq word known ≡ false
    other known apart = differs (bytes_eq word known) (same_bytes-decides word known) (λ q. apart (same ∙ is ∙ q))
