-- trimming by the places of the first and the last byte that isn't blank
use Rattle.std.proofs.Common.{◌≡◌, ℕ, ◌+◌, ◌-◌, ◌<◌, ◌≤◌, true, false, not, List, [], ◌∷◌, length, take, drop, get_or, refl, sym, ap, ⊎_elim, ◌∙◌, arith, length-drop, length-take}
use Rattle.std.specs.List.{prefix_len, suffix_len}
use Rattle.std.proofs.lemmas.List.{get_or-drop}
use Rattle.std.proofs.lemmas.List.Sums.{prefix_len_is, suffix_len_is}
use Rattle.std.proofs.lemmas.Bool.{cases_lt, not-true, not_from_false, true_from_ne_false}
use Rattle.std.proofs.lemmas.Str.{IsCharBoundary-after_ascii}
use Rattle.std.specs.Str.{IsUtf8, IsCharBoundary}
use Rattle.bstr.specs.Bytes.{is_in, not_in}
use Rattle.bstr.specs.Find.{NoneBefore, NoneAfter, Nowhere, Passes}
use Rattle.std.proofs.lemmas.Bool.Decides.{nat_tests}
use Rattle.tup_lex.specs.Blank.{is_blank, trim, BlankFrom, Ends}

pub trim_is : (text : List ℕ) (a b : ℕ) → a ≤ b → b ≤ length text → BlankFrom text 0 a → (a < length text → is_blank (get_or text a 0) ≡ false) → BlankFrom text b (length text) → (a < b → is_blank (get_or text (b - 1) 0) ≡ false) → trim text ≡ take (b - a) (drop a text)
trim_is text a b ab bl before first behind last =
    let n = length text in
    let rest = drop a text in
    let p : prefix_len is_blank text ≡ a = prefix_len_is is_blank text a 0 (omega arith) (λ k h. before k (omega arith) h) first in
    let len : length rest ≡ n - a = length-drop a text in
    let s : suffix_len is_blank rest ≡ length rest - (b - a) =
    suffix_len_is is_blank rest (b - a) 0 (omega arith)
    (λ k low high. rw get_or-drop (behind (a + k) (omega arith) (omega arith)))
    (λ h. rw get_or-drop (let e : a + (b - a - 1) ≡ b - 1 = omega arith in rw e (last (omega arith)))) in
    let back : length rest - (length rest - (b - a)) ≡ b - a = omega arith in
    rw p (rw s (rw back refl))

-- what the search for a byte outside of the blanks tests
pub not_in-blank : (byte : ℕ) → not_in (32 ∷ 9 ∷ []) byte ≡ not (is_blank byte)
unfolding is_in
not_in-blank byte = grind arith

-- the blanks as the set of bytes that the code names
abbrev IsKept : List ℕ → ℕ → Type 0
IsKept = Passes (not_in (32 ∷ 9 ∷ []))

pub blank_from_nowhere : (text : List ℕ) (a b : ℕ) → Nowhere (IsKept text) a b → BlankFrom text a b
blank_from_nowhere text a b h k low high = true_from_ne_false _ (λ e. h k low high (not_in-blank (get_or text k 0) ∙ not_from_false _ e))

kept : (text : List ℕ) (k : ℕ) → IsKept text k → is_blank (get_or text k 0) ≡ false
kept text k h = not-true _ (sym (not_in-blank (get_or text k 0)) ∙ h)

pub Ends-from_searches : (text : List ℕ) (first last : ℕ) → NoneBefore (IsKept text) 0 (length text) first × IsKept text first → NoneAfter (IsKept text) 0 (length text) last × IsKept text last → Ends text first last
Ends-from_searches text first last f l = record {
  ordered = ⊎_elim (λ h. absurd (f.0.before last (omega arith) h l.1)) (λ h. h) (cases_lt last first);
  within = l.0.high;
  before = blank_from_nowhere text 0 first f.0.before;
  first_kept = kept text first f.1;
  last_kept = kept text last l.1;
  behind = blank_from_nowhere text (last + 1) (length text) l.0.after;
}

pub trim-between : (text : List ℕ) (first last : ℕ) → Ends text first last → trim text ≡ take (last + 1 - first) (drop first text)
trim-between text first last e =
    let back : last + 1 - 1 ≡ last = omega arith in
    trim_is text first (last + 1) (omega arith) (omega arith) e.before (λ _. e.first_kept) e.behind (λ _. rw back e.last_kept)

-- where nothing is found, nothing is left
pub trim_none : (text : List ℕ) → BlankFrom text 0 (length text) → trim text ≡ []
trim_none text h =
    let n = length text in
    let none : n - n ≡ 0 = omega arith in
    trim_is text n n (omega arith) (omega arith) h (λ l. absurd (omega arith)) (λ k low high. absurd (omega arith)) (λ l. absurd (omega arith)) ∙ rw none refl

pub prefix_len-none : (text : List ℕ) → BlankFrom text 0 (length text) → prefix_len is_blank text ≡ length text
prefix_len-none text h = prefix_len_is is_blank text (length text) 0 (omega arith) (λ k high. h k (omega arith) high) (λ l. absurd (omega arith))

pub prefix_len-ends : (text : List ℕ) (first last : ℕ) → Ends text first last → prefix_len is_blank text ≡ first
prefix_len-ends text first last e = prefix_len_is is_blank text first 0 (omega arith) (λ k high. e.before k (omega arith) high) (λ _. e.first_kept)

pub length-trim : (text : List ℕ) (first last : ℕ) → Ends text first last → length (trim text) ≡ last + 1 - first
length-trim text first last e = ap length (trim-between text first last e) ∙ omega (arith, length-take (last + 1 - first) (drop first text), length-drop first text)

small : (byte : ℕ) → is_blank byte ≡ true → byte < 128
small byte h = grind (arith, nat_tests)

pub start-IsCharBoundary : (text : List ℕ) (first last : ℕ) → IsUtf8 text → Ends text first last → 0 < first → IsCharBoundary text first
start-IsCharBoundary text first last utf8 e h =
    let back : first - 1 + 1 ≡ first = omega arith in
    let blank : is_blank (get_or text (first - 1) 0) ≡ true = e.before (first - 1) (omega arith) (omega arith) in
    rw back at (IsCharBoundary-after_ascii text (first - 1) utf8 (omega arith) (small (get_or text (first - 1) 0) blank))
