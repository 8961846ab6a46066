-- Texts cut at their last dot.
use Rattle.std.proofs.Common.{◌≡◌, ◌≢◌, ℕ, suc, ◌+◌, ◌-◌, ◌<◌, ◌≤◌, Bool, true, false, not, ◌&&◌, eqb, if◌then◌else◌, List, [], ◌∷◌, ◌++◌, length, take, drop, get_or, Some, ap, sym, ◌∙◌, length-append, arith}
use Rattle.std.proofs.lemmas.Bool.{ne_eqb}
use Rattle.std.proofs.lemmas.List.{take-append-drop, get_or-append-add}
use Rattle.std.proofs.lemmas.List.Elements.{All-from_get_or}
use Rattle.std.proofs.lemmas.List.Folds.{list_any_none, list_any_at}
use Rattle.std.proofs.lemmas.List.Sums.{suffix_len_is}
use Rattle.std.proofs.lemmas.Str.Pattern.{drop_at_char, NoCharPasses-char}
use Rattle.std.proofs.Math.Seq.{get_or-append_seam, take-append_seam, drop-append-add}
use Rattle.std.specs.List.{before_last, after_last, list_any, suffix_len}
use Rattle.std.specs.Str.Pattern.{RFindsChar}
use Rattle.tup_flags.specs.Shown.{is_dot, is_slash, without_extension, extension}
use Rattle.tup_flags.proofs.Marks.{Lacks}

-- a list that lacks an element has none that passes the test for it
pub none-passes : (byte : ℕ) (text : List ℕ) → Lacks byte text → list_any (λ b. eqb b byte) text ≡ false
none-passes byte text lacks = list_any_none (λ b. eqb b byte) text (All-from_get_or (λ b. eqb b byte ≡ false) text 0 (λ i l. ne_eqb (get_or text i 0) byte (lacks i l)))

-- what `rsplit_once` says of the two parts that it finds
pub cut-last : (byte : ℕ) (text front behind : List ℕ) (i j : ℕ) → RFindsChar byte text (Some (i, j)) → front ≡ take i text → behind ≡ drop j text → byte < 128 → (text ≡ front ++ byte ∷ behind) × Lacks byte behind
cut-last byte text front behind i j found f b small = (
  sym (take-append-drop i text) ∙ ap (λ rest. take i text ++ rest) (drop_at_char byte text i j found.1 small) ∙ ap (λ rest. take i text ++ byte ∷ rest) (sym b) ∙ ap (λ start. start ++ byte ∷ behind) (sym f),
  λ k l. rw b (NoCharPasses-char byte (drop j text) k found.0 small (rw b at l)),
)

behind-dot : (front behind : List ℕ) → Lacks 46 behind → (k : ℕ) → length front + 1 ≤ k → k < length front + 1 + length behind → get_or (front ++ 46 ∷ behind) k 0 ≢ 46
behind-dot front behind lacks k low high = λ here.
    let m = k - (length front + 1) in
    let at : length front + suc m ≡ k = omega arith in
    lacks m (omega arith) (sym (get_or-append-add front (46 ∷ behind) (suc m) 0) ∙ ap (λ i. get_or (front ++ 46 ∷ behind) i 0) at ∙ here)

-- how far the last dot stands from the end
suffix-dot : (front behind : List ℕ) → Lacks 46 behind → suffix_len (λ b. not (is_dot b)) (front ++ 46 ∷ behind) ≡ length behind
suffix-dot front behind lacks =
    let text = front ++ 46 ∷ behind in
    let n : ℕ = length front + 1 in
    let long : length text ≡ n + length behind = length-append front (46 ∷ behind) ∙ omega arith in
    let back : n - 1 ≡ length front = omega arith in
    suffix_len_is (λ b. not (is_dot b)) text n 0 (omega arith)
    (λ k low high. ap not (ne_eqb (get_or text k 0) 46 (behind-dot front behind lacks k low (omega arith))))
    (λ some. ap (λ i. not (is_dot (get_or text i 0))) back ∙ ap (λ b. not (is_dot b)) (get_or-append_seam front 46 behind 0))
    ∙ omega arith

after-dot : (front behind : List ℕ) → Lacks 46 behind → after_last is_dot (front ++ 46 ∷ behind) ≡ behind
after-dot front behind lacks =
    let text = front ++ 46 ∷ behind in
    let place : length text - length behind ≡ length front + 1 = omega (arith, length-append front (46 ∷ behind)) in
    ap (λ n. drop (length text - n) text) (suffix-dot front behind lacks) ∙ ap (λ n. drop n text) place ∙ drop-append-add front (46 ∷ behind) 1

before-dot : (front behind : List ℕ) → Lacks 46 behind → before_last is_dot (front ++ 46 ∷ behind) ≡ front
before-dot front behind lacks =
    let text = front ++ 46 ∷ behind in
    let place : length text - length behind - 1 ≡ length front = omega (arith, length-append front (46 ∷ behind)) in
    ap (λ n. take (length text - n - 1) text) (suffix-dot front behind lacks) ∙ ap (λ n. take n text) place ∙ take-append_seam front (46 ∷ behind)

has-dot : (front behind : List ℕ) → list_any is_dot (front ++ 46 ∷ behind) ≡ true
has-dot front behind =
    list_any_at is_dot (front ++ 46 ∷ behind) (length front) 0 (omega (arith, length-append front (46 ∷ behind))) (ap is_dot (get_or-append_seam front 46 behind 0))

-- what stands behind the last dot of a name
pub extension-cut : (name front behind : List ℕ) → (name ≡ front ++ 46 ∷ behind) × Lacks 46 behind → behind ≡ extension name
extension-cut name front behind cut =
    sym (ap extension cut.0 ∙ ap (λ b. if b then after_last is_dot (front ++ 46 ∷ behind) else []) (has-dot front behind) ∙ after-dot front behind cut.1)

pub extension-none : (name : List ℕ) → Lacks 46 name → [] ≡ extension name
extension-none name lacks = sym (ap (λ b. if b then after_last is_dot name else []) (none-passes 46 name lacks))

-- a text with its extension cut off
without-cut : (front behind : List ℕ) (slash : Bool) → Lacks 46 behind → list_any is_slash behind ≡ slash → without_extension (front ++ 46 ∷ behind) ≡ (if not slash then front else front ++ 46 ∷ behind)
without-cut front behind slash lacks e =
    let text = front ++ 46 ∷ behind in
    ap (λ b. if b && not (list_any is_slash (after_last is_dot text)) then before_last is_dot text else text) (has-dot front behind)
    ∙ ap (λ rest. if not (list_any is_slash rest) then before_last is_dot text else text) (after-dot front behind lacks)
    ∙ ap (λ b. if not b then before_last is_dot text else text) e
    ∙ ap (λ start. if not slash then start else text) (before-dot front behind lacks)

pub without-extension : (text front behind : List ℕ) → (text ≡ front ++ 46 ∷ behind) × Lacks 46 behind → Lacks 47 behind → front ≡ without_extension text
without-extension text front behind cut none =
    sym (ap without_extension cut.0 ∙ without-cut front behind false cut.1 (none-passes 47 behind none))

pub without-slash : (text front behind : List ℕ) → (text ≡ front ++ 46 ∷ behind) × Lacks 46 behind → (k : ℕ) → k < length behind → get_or behind k 0 ≡ 47 → text ≡ without_extension text
without-slash text front behind cut k within slash =
    let some : list_any is_slash behind ≡ true = list_any_at is_slash behind k 0 within (ap is_slash slash) in
    cut.0 ∙ sym (ap without_extension cut.0 ∙ without-cut front behind true cut.1 some)

pub without-none : (text : List ℕ) → Lacks 46 text → text ≡ without_extension text
without-none text lacks =
    sym (ap (λ b. if b && not (list_any is_slash (after_last is_dot text)) then before_last is_dot text else text) (none-passes 46 text lacks))
