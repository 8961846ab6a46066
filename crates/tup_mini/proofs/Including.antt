-- The lines of a file, and what they include.
use Rattle.std.proofs.Common.{◌≡◌, ◌≢◌, ℕ, zero, suc, ◌+◌, ◌-◌, ◌<◌, ◌≤◌, ◌==◌, Bool, true, false, not, ◌&&◌, ◌||◌, cond, if◌then◌else◌, List, [], ◌∷◌, ◌++◌, length, take, drop, get_or, ltb, lit<, Option, None, Some, refl, sym, ap, ◌∙◌, subst, arith, codes, bytes_eq}
use Rattle.std.specs.List.{position, position_or_len, onto_first, list_any}
use Rattle.std.specs.Option.{MatchOption}
use Rattle.std.specs.Str.{IsUtf8, is_utf8, NoCharPasses}
use Rattle.std.specs.Str.Pattern.{RFindsChar, SplitsAroundMatch}
use Rattle.std.proofs.lemmas.Option.{cond_some}
use Rattle.std.proofs.lemmas.Str.{IsUtf8-from_is_utf8, is_utf8-from_IsUtf8}
use Rattle.std.proofs.lemmas.Str.Pattern.{NoCharPasses-char, drop_at_char}
use Rattle.std.proofs.lemmas.Bool.{true≢false, false≢true, ltb-false, eq-eqb, ne_eqb}
use Rattle.std.proofs.lemmas.List.{take_at, take_all, drop_all, get_or_at, length-append, take-append-drop}
use Rattle.tup_path.proofs.Same.{same_bytes-decides, differs}
use Rattle.tup_mini.specs.Include.{lines_of, unended, include_of, between, is_included, included, folder_part}

-- ---- lines

-- a file that isn't empty begins with a line
pub first_line : (bytes : List ℕ) → 0 < length bytes → lines_of bytes ≡ take (position_or_len (λ b. b == 10) bytes + 1) bytes ∷ lines_of (drop (position_or_len (λ b. b == 10) bytes + 1) bytes)
first_line [] some = absurd (omega arith)
first_line (b ∷ []) some = by (b == 10)
  where
    by : (t : Bool) → (if t then (b ∷ []) ∷ [] else onto_first b []) ≡ take (cond (not t) (1 + 0) 0 + 1) (b ∷ []) ∷ lines_of (drop (cond (not t) (1 + 0) 0 + 1) (b ∷ []))
    by true = refl
    by false = refl
first_line (b ∷ c ∷ bytes) some = by (b == 10) (first_line (c ∷ bytes) (omega arith))
  where
    n : ℕ
    n = position_or_len (λ d. d == 10) (c ∷ bytes)

    by : (t : Bool) → lines_of (c ∷ bytes) ≡ take (position_or_len (λ d. d == 10) (c ∷ bytes) + 1) (c ∷ bytes) ∷ lines_of (drop (position_or_len (λ d. d == 10) (c ∷ bytes) + 1) (c ∷ bytes))
        → (if t then (b ∷ []) ∷ lines_of (c ∷ bytes) else onto_first b (lines_of (c ∷ bytes)))
        ≡ take (cond (not t) (1 + position_or_len (λ d. d == 10) (c ∷ bytes)) 0 + 1) (b ∷ c ∷ bytes) ∷ lines_of (drop (cond (not t) (1 + position_or_len (λ d. d == 10) (c ∷ bytes)) 0 + 1) (b ∷ c ∷ bytes))
    by true rest = refl
    by false rest =
        let more : (1 + position_or_len (λ d. d == 10) (c ∷ bytes)) + 1 ≡ suc (position_or_len (λ d. d == 10) (c ∷ bytes) + 1) = omega arith in
        ap (onto_first b) rest ∙ ap (λ m. take m (b ∷ c ∷ bytes) ∷ lines_of (drop m (b ∷ c ∷ bytes))) (sym more)

pub first-some : (rest : List ℕ) (at : ℕ) → 0 < length rest → position (λ b. b == 10) rest ≡ Some at → lines_of rest ≡ take (at + 1) rest ∷ lines_of (drop (at + 1) rest)
first-some rest at some found =
    let here = cond_some (ltb (position_or_len (λ b. b == 10) rest) (length rest)) (position_or_len (λ b. b == 10) rest) at found in
    first_line rest some ∙ ap (λ n. take (n + 1) rest ∷ lines_of (drop (n + 1) rest)) here.1

past : (t : Bool) (n : ℕ) → cond t (Some n) None ≡ None → t ≡ false
past true n e = absurd (cc)
past false n e = refl

pub first-none : (rest : List ℕ) → 0 < length rest → position (λ b. b == 10) rest ≡ None → lines_of rest ≡ take (length rest) rest ∷ lines_of (drop (length rest) rest)
first-none rest some found =
    let far : length rest ≤ position_or_len (λ b. b == 10) rest = ltb-false (position_or_len (λ b. b == 10) rest) (length rest) (past _ _ found) in
    first_line rest some
    ∙ (λ i. (take_all (position_or_len (λ b. b == 10) rest + 1) rest (omega (arith, far)) ∙ sym (take_all (length rest) rest (omega arith))) i
    ∷ lines_of ((drop_all (position_or_len (λ b. b == 10) rest + 1) rest (omega (arith, far)) ∙ sym (drop_all (length rest) rest (omega arith))) i))

-- a line with its line feed, and one without
pub unended-yes : (line : List ℕ) (n : ℕ) → n + 1 ≡ length line → get_or line n 0 ≡ 10 → take n line ≡ unended line
unended-yes [] n long is = absurd (omega arith)
unended-yes (b ∷ []) zero long is = rw (eq-eqb b 10 is) refl
unended-yes (b ∷ []) (suc n) long is = absurd (omega arith)
unended-yes (b ∷ c ∷ line) zero long is = absurd (omega arith)
unended-yes (b ∷ c ∷ line) (suc n) long is = ap (λ t. b ∷ t) (unended-yes (c ∷ line) n (omega arith) is)

pub unended-no : (line : List ℕ) (n : ℕ) → n + 1 ≡ length line → get_or line n 0 ≢ 10 → line ≡ unended line
unended-no [] n long other = absurd (omega arith)
unended-no (b ∷ []) zero long other = rw (ne_eqb b 10 other) refl
unended-no (b ∷ []) (suc n) long other = absurd (omega arith)
unended-no (b ∷ c ∷ line) zero long other = absurd (omega arith)
unended-no (b ∷ c ∷ line) (suc n) long other = ap (λ t. b ∷ t) (unended-no (c ∷ line) n (omega arith) other)

-- ---- a line that includes a file

-- what a line that includes a file would include
pub between-is : (name : List ℕ) → between (include_of name) ≡ name
between-is name = let long : length (include_of name) - 11 ≡ length name = omega (arith, length-append name (34 ∷ [])) in
    ap (λ n. take n (name ++ 34 ∷ [])) long ∙ take_at name (34 ∷ []) (length name) refl

-- a name between quotes
pub included-quoted : (line name : List ℕ) → line ≡ include_of name → included line ≡ (if is_included name then Some name else None)
included-quoted line name is =
    ap included is ∙ rw (between-is name, (same_bytes-decides (include_of name) (include_of name)).1 refl) refl

-- a line that isn't of this form
pub included-none : (line : List ℕ) → ((name : List ℕ) → line ≢ include_of name) → included line ≡ None
included-none line other = rw (differs (bytes_eq line (include_of (between line))) (same_bytes-decides line (include_of (between line))) (other (between line))) refl

-- what stands behind the first bytes of such a line doesn't end with a quote
pub quoted-none : (line quoted : List ℕ) → quoted ≡ drop 10 line → (0 < length quoted → get_or quoted (length quoted - 1) 0 ≢ 34) → None ≡ included line
quoted-none line quoted behind other = sym (included-none line (λ name is.
    let same : quoted ≡ name ++ 34 ∷ [] = behind ∙ ap (drop 10) is in
    let long : length quoted ≡ length name + 1 = ap length same ∙ length-append name (34 ∷ []) in
    other (omega (arith, long)) (ap (λ n. get_or quoted n 0) (omega (arith, long)) ∙ ap (λ (q : List ℕ). get_or q (length name) 0) same ∙ get_or_at name 34 [] 0 (length name) refl)))

-- it does
ends_quoted : (quoted : List ℕ) (n : ℕ) → n + 1 ≡ length quoted → get_or quoted n 0 ≡ 34 → quoted ≡ take n quoted ++ 34 ∷ []
ends_quoted [] n long is = absurd (omega arith)
ends_quoted (b ∷ []) zero long is = ap (λ t. t ∷ []) is
ends_quoted (b ∷ []) (suc n) long is = absurd (omega arith)
ends_quoted (b ∷ c ∷ quoted) zero long is = absurd (omega arith)
ends_quoted (b ∷ c ∷ quoted) (suc n) long is = ap (λ t. b ∷ t) (ends_quoted (c ∷ quoted) n (omega arith) is)

pub quoted-some : (line quoted : List ℕ) → take 10 line ≡ codes "#include " ++ 34 ∷ [] → quoted ≡ drop 10 line → 1 ≤ length quoted → get_or quoted (length quoted - 1) 0 ≡ 34
    → line ≡ include_of (take (length quoted - 1) quoted)
quoted-some line quoted front behind some is =
    sym (take-append-drop 10 line) ∙ (λ i. front i ++ (sym behind ∙ ends_quoted quoted (length quoted - 1) (omega arith) is) i)

-- a name between quotes, by the tests of the code
pub named : (line name : List ℕ) (empty quote : Bool) (found : Option (List ℕ)) → line ≡ include_of name → empty ≡ (length name == 0) → empty ≡ false → quote ≡ list_any (λ b. b == 34) name → quote ≡ false
    → MatchOption found (¬ IsUtf8 name) (λ text. (text ≡ name) × IsUtf8 name) → found ≡ included line
named line name empty quote found is e none q apart text =
    by (length name == 0) (list_any (λ b. b == 34) name) (is_utf8 name) found (sym e ∙ none) (sym q ∙ apart) (λ utf8. is_utf8-from_IsUtf8 name utf8) (λ utf8. IsUtf8-from_is_utf8 name utf8) text
    ∙ sym (included-quoted line name is)
  where
    by : (t u v : Bool) (o : Option (List ℕ)) → t ≡ false → u ≡ false → (IsUtf8 name → v ≡ true) → (v ≡ true → IsUtf8 name) → MatchOption o (¬ IsUtf8 name) (λ text. (text ≡ name) × IsUtf8 name)
        → o ≡ (if not t && not u && v then Some name else None)
    by true u v o a b to fro m = absurd (true≢false a)
    by false true v o a b to fro m = absurd (true≢false b)
    by false false true None a b to fro m = absurd (m (fro refl))
    by false false false None a b to fro m = refl
    by false false true (Some text) a b to fro m = ap Some m.0
    by false false false (Some text) a b to fro m = absurd (false≢true (to m.1))

-- ---- the folder of a text

-- no slash
pub folder-none : (text : List ℕ) → list_any (λ c. c == 47) text ≡ false → folder_part text ≡ []
folder-none [] none = refl
folder-none (b ∷ text) none = rw none refl

any_behind : (front back : List ℕ) → list_any (λ c. c == 47) (front ++ 47 ∷ back) ≡ true
any_behind [] back = refl
any_behind (b ∷ front) back = or_true (b == 47) (any_behind front back)
  where
    or_true : (t : Bool) {u : Bool} → u ≡ true → (t || u) ≡ true
    or_true true is = refl
    or_true false is = is

-- a last slash
pub folder-some : (front back : List ℕ) → list_any (λ c. c == 47) back ≡ false → folder_part (front ++ 47 ∷ back) ≡ front ++ 47 ∷ []
folder-some [] back none = ap (λ t. 47 ∷ t) (folder-none back none)
folder-some (b ∷ front) back none = rw (any_behind (b ∷ front) back) (ap (λ t. b ∷ t) (folder-some front back none))

-- ---- by the search for a slash

pub no_slash : (text : List ℕ) → ((i : ℕ) → i < length text → get_or text i 0 ≢ 47) → list_any (λ c. c == 47) text ≡ false
no_slash [] none = refl
no_slash (b ∷ text) none = rw (ne_eqb b 47 (none 0 (omega arith))) (no_slash text (λ i less. none (suc i) (omega arith)))

pub beside-none : (text : List ℕ) → NoCharPasses (λ d. d == 47) text → folder_part text ≡ []
beside-none text none = folder-none text (no_slash text (λ i less. NoCharPasses-char 47 text i none (lit< tt) less))

pub beside-some : (text front back : List ℕ) → SplitsAroundMatch (RFindsChar 47) text front back → folder_part text ≡ front ++ 47 ∷ []
beside-some text front back (i, j, found, before, behind, order, short, rest) =
    let at = drop_at_char 47 text i j found.1 (lit< tt) in
    let whole : text ≡ front ++ 47 ∷ back = sym (take-append-drop i text) ∙ (λ k. sym before k ++ (at ∙ ap (λ t. 47 ∷ t) (sym behind)) k) in
    let last = no_slash back (λ k less. NoCharPasses-char 47 back k (subst (NoCharPasses (λ d. d == 47)) (sym behind) found.0) (lit< tt) less) in
    ap folder_part whole ∙ folder-some front back last
