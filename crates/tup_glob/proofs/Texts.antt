-- Texts by their characters.
use Rattle.std.proofs.Common.{◌≡◌, ◌≢◌, ℕ, ◌+◌, ◌-◌, ◌≤◌, List, [], ◌∷◌, ◌++◌, length, take, drop, Some, None, refl, sym, ap, ◌∙◌, subst, take-append-drop, length-append, arith}
use Rattle.std.proofs.Math.ListN.{drop_of_length-le}
use Rattle.std.proofs.Math.Seq.{take-append_seam}
use Rattle.std.proofs.Math.Utf8.{encode}
use Rattle.std.proofs.lemmas.List.{append-nil, drop-drop}
use Rattle.std.proofs.lemmas.Str.{chars_from_encodes, encodes-chars, encodes-append, encodes_same, chars-nil, IsCharBoundary-at_seam}
use Rattle.std.specs.Str.{chars, IsUtf8, IsCharBoundary, encode_utf8_all}
use Rattle.tup_glob.specs.declared.symbol.Symbol.{Symbol}
use Rattle.tup_glob.specs.Fit.{fit}

-- a text with no bytes is one with no characters
pub chars_of_none : (text : List ℕ) → length text ≡ 0 → chars text ≡ []
chars_of_none [] none = chars-nil
chars_of_none (byte ∷ more) none = absurd cc

pub chars_of_some : (text : List ℕ) → IsUtf8 text → length text ≢ 0 → chars text ≢ []
chars_of_some text utf8 some none = some (ap length (sym (encodes-chars text utf8) ∙ ap encode_utf8_all none))

-- a text of whose bytes the last are those of one character
pub chars_to_char : (text front : List ℕ) (char : ℕ) → IsUtf8 text → IsUtf8 front → text ≡ front ++ encode char → chars text ≡ chars front ++ char ∷ []
chars_to_char text front char text_utf8 front_utf8 cut =
    sym (chars_from_encodes (chars front ++ char ∷ []) text text_utf8
    (encodes-append (chars front) (char ∷ []) ∙ ap (λ b. b ++ encode_utf8_all (char ∷ [])) (encodes-chars front front_utf8) ∙ ap (λ b. front ++ b) (append-nil (encode char)) ∙ sym cut))

-- ---- behind all symbols
fit_none : (name : List ℕ) → name ≢ [] → fit [] name ≡ None
fit_none [] some = absurd (some refl)
fit_none (char ∷ rest) some = refl

pub fit_end : (symbols : List Symbol) (k : ℕ) (rest : List ℕ) → length symbols ≤ k → length rest ≡ 0 → fit (drop k symbols) (chars rest) ≡ Some (chars rest)
fit_end symbols k rest all none =
    let empty = chars_of_none rest none in
    ap (λ p. fit p (chars rest)) (drop_of_length-le symbols all) ∙ ap (fit []) empty ∙ ap (λ t. Some t) (sym empty)

pub fit_not_end : (symbols : List Symbol) (k : ℕ) (rest : List ℕ) → length symbols ≤ k → IsUtf8 rest → length rest ≢ 0 → fit (drop k symbols) (chars rest) ≡ None
fit_not_end symbols k rest all utf8 some =
    ap (λ p. fit p (chars rest)) (drop_of_length-le symbols all) ∙ fit_none (chars rest) (chars_of_some rest utf8 some)

-- ---- a text and the rest of it behind so many characters
pub drop_next : (text behind : List ℕ) (n char : ℕ) → drop n text ≡ char ∷ behind → behind ≡ drop (n + 1) text
drop_next text behind n char next = sym (sym (drop-drop 1 n text) ∙ ap (drop 1) next)

front_of : List ℕ → ℕ → List ℕ
front_of text n = encode_utf8_all (take n (chars text))

at_front : (text rest : List ℕ) (n : ℕ) → IsUtf8 text → IsUtf8 rest → chars rest ≡ drop n (chars text) → text ≡ front_of text n ++ rest
unfolding front_of
at_front text rest n text_utf8 rest_utf8 behind =
    sym (encodes-chars text text_utf8)
    ∙ ap encode_utf8_all (sym (take-append-drop n (chars text)))
    ∙ encodes-append (take n (chars text)) (drop n (chars text))
    ∙ ap (λ t. encode_utf8_all (take n (chars text)) ++ encode_utf8_all t) (sym behind)
    ∙ ap (λ b. encode_utf8_all (take n (chars text)) ++ b) (encodes-chars rest rest_utf8)

rest_len : (text front rest : List ℕ) → text ≡ front ++ rest → length text ≡ length front + length rest
rest_len text front rest whole = ap length whole ∙ length-append front rest

pub rest_within : (text rest : List ℕ) (n : ℕ) → IsUtf8 text → IsUtf8 rest → chars rest ≡ drop n (chars text) → length rest ≤ length text
rest_within text rest n text_utf8 rest_utf8 behind =
    let long = rest_len text (front_of text n) rest (at_front text rest n text_utf8 rest_utf8 behind) in omega arith

pub front_boundary : (text rest : List ℕ) (n : ℕ) → IsUtf8 text → IsUtf8 rest → chars rest ≡ drop n (chars text) → IsCharBoundary text (length text - length rest)
front_boundary text rest n text_utf8 rest_utf8 behind =
    let whole = at_front text rest n text_utf8 rest_utf8 behind in
    let long = rest_len text (front_of text n) rest whole in
    let ends : length (front_of text n) ≡ length text - length rest = omega arith in
    subst (IsCharBoundary text) ends (IsCharBoundary-at_seam text (front_of text n) rest whole rest_utf8)

pub front_chars : (text rest front : List ℕ) (n : ℕ) → IsUtf8 text → IsUtf8 rest → IsUtf8 front → chars rest ≡ drop n (chars text) → front ≡ take (length text - length rest) text →
    chars front ≡ take n (chars text)
unfolding front_of
front_chars text rest front n text_utf8 rest_utf8 front_utf8 behind cut =
    let own = front_of text n in
    let whole = at_front text rest n text_utf8 rest_utf8 behind in
    let long = rest_len text own rest whole in
    let ends : length text - length rest ≡ length own = omega arith in
    encodes_same (chars front) (take n (chars text))
    (encodes-chars front front_utf8 ∙ cut ∙ ap (λ k. take k text) ends ∙ ap (take (length own)) whole ∙ take-append_seam own rest)
