-- A line says what it is spelled as, and holds no line feed.
use Rattle.std.proofs.Common.{◌≡◌, ◌≢◌, ℕ, ◌<◌, false, eqb, List, ◌∷◌, ◌++◌, Ok, refl, ap, sym, ◌∙◌, arith}
use Rattle.std.proofs.lemmas.Bool.{ne_eqb}
use Rattle.std.proofs.lemmas.Fmt.{decimal_injective}
use Rattle.std.proofs.lemmas.List.Elements.{All-cons, All-append, All-weaker}
use Rattle.std.specs.Fmt.{decimal}
use Rattle.hex.specs.Hex.{IsBytes, decode_of, encode_lower}
use Rattle.hex.proofs.HexLemmas.{decode_of-encode_lower}
use Rattle.tup_stamp.specs.Hex.{hex_text}
use Rattle.tup_stamp.specs.declared.Stamp.{Stamp}
use Rattle.tup_proc.specs.Log.{spelling_of, IsLine, IsLineText}
use Rattle.tup_proc.specs.Reading.{Lacks}
use Rattle.tup_proc.specs.declared.line.LogLine.{LogLine}
use Rattle.tup_proc.specs.declared.line.LogLine.TheVariants.{Read, Absent, Wrote, End}
use Rattle.tup_proc.proofs.Marks.{other_first, cut_at, decimal_lacks, hex_lacks, encode_lower-hex_text}

text_lacks : (text : List ℕ) → IsLineText text → Lacks 10 text
text_lacks text is = All-weaker (λ byte. byte ≢ 10) (λ b. eqb b 10 ≡ false) (λ b other. ne_eqb b 10 other) text is.no_feed

-- a mark, a space and the rest of a line
marked : (mark : ℕ) (said : List ℕ) → eqb mark 10 ≡ false → Lacks 10 said → Lacks 10 (mark ∷ 32 ∷ said)
marked mark said other lacks = All-cons (λ b. eqb b 10 ≡ false) mark (32 ∷ said) other (All-cons (λ b. eqb b 10 ≡ false) 32 said refl lacks)

-- a field, a space and a text
named : (field text : List ℕ) → Lacks 10 field → IsLineText text → Lacks 10 (field ++ 32 ∷ text)
named field text lacks is = All-append (λ b. eqb b 10 ≡ false) field (32 ∷ text) lacks (All-cons (λ b. eqb b 10 ≡ false) 32 text refl (text_lacks text is))

pub line_lacks : (line : LogLine) → IsLine line → Lacks 10 (spelling_of line)
line_lacks (Read stamp text) is = marked 82 (hex_text stamp.0 ++ 32 ∷ text) refl (named (hex_text stamp.0) text (hex_lacks 10 stamp.0 is.0.bytes refl) is.1)
line_lacks (Absent text) is = marked 65 text refl (text_lacks text is)
line_lacks (Wrote file text) is = marked 87 (decimal file ++ 32 ∷ text) refl (named (decimal file) text (decimal_lacks 10 file (omega arith) (omega (arith, is.0))) is.1)
line_lacks (End status) is = marked 69 (decimal status) refl (decimal_lacks 10 status (omega arith) (omega (arith, is)))

same_bytes : (one two : List ℕ) → IsBytes one → IsBytes two → hex_text one ≡ hex_text two → one ≡ two
same_bytes one two is also e =
    let same : encode_lower one ≡ encode_lower two = encode_lower-hex_text one ∙ e ∙ sym (encode_lower-hex_text two) in
    let found : Ok one ≡ Ok two = sym (decode_of-encode_lower one is) ∙ ap decode_of same ∙ decode_of-encode_lower two also in cc

same_number : (one two : ℕ) → one < 4294967296 → two < 4294967296 → decimal one ≡ decimal two → one ≡ two
same_number one two small also e = decimal_injective one two (omega arith) (omega arith) e

-- a line says what it is spelled as
pub same_line : (one two : LogLine) → IsLine one → IsLine two → spelling_of one ≡ spelling_of two → one ≡ two
same_line (Read stamp text) (Read other name) is also e =
    let said : hex_text stamp.0 ++ 32 ∷ text ≡ hex_text other.0 ++ 32 ∷ name = cc in
    let both = cut_at 32 (hex_text stamp.0) (hex_text other.0) text name (hex_lacks 32 stamp.0 is.0.bytes refl) (hex_lacks 32 other.0 also.0.bytes refl) said in
    ap (λ (s : Stamp). Read s text) (ap (λ bytes. record { 0 = bytes }) (same_bytes stamp.0 other.0 is.0.bytes also.0.bytes both.0)) ∙ ap (λ t. Read other t) both.1
same_line (Read stamp text) (Absent name) is also e = absurd (other_first 82 65 _ _ refl e)
same_line (Read stamp text) (Wrote file name) is also e = absurd (other_first 82 87 _ _ refl e)
same_line (Read stamp text) (End status) is also e = absurd (other_first 82 69 _ _ refl e)
same_line (Absent text) (Read other name) is also e = absurd (other_first 65 82 _ _ refl e)
same_line (Absent text) (Absent name) is also e = let same : text ≡ name = cc in ap (λ t. Absent t) same
same_line (Absent text) (Wrote file name) is also e = absurd (other_first 65 87 _ _ refl e)
same_line (Absent text) (End status) is also e = absurd (other_first 65 69 _ _ refl e)
same_line (Wrote file text) (Read other name) is also e = absurd (other_first 87 82 _ _ refl e)
same_line (Wrote file text) (Absent name) is also e = absurd (other_first 87 65 _ _ refl e)
same_line (Wrote file text) (Wrote other name) is also e =
    let said : decimal file ++ 32 ∷ text ≡ decimal other ++ 32 ∷ name = cc in
    let both = cut_at 32 (decimal file) (decimal other) text name (decimal_lacks 32 file (omega arith) (omega (arith, is.0))) (decimal_lacks 32 other (omega arith) (omega (arith, also.0))) said in
    ap (λ k. Wrote k text) (same_number file other is.0 also.0 both.0) ∙ ap (λ t. Wrote other t) both.1
same_line (Wrote file text) (End status) is also e = absurd (other_first 87 69 _ _ refl e)
same_line (End status) (Read other name) is also e = absurd (other_first 69 82 _ _ refl e)
same_line (End status) (Absent name) is also e = absurd (other_first 69 65 _ _ refl e)
same_line (End status) (Wrote file name) is also e = absurd (other_first 69 87 _ _ refl e)
same_line (End status) (End other) is also e =
    let said : decimal status ≡ decimal other = cc in ap (λ n. End n) (same_number status other (omega (arith, is)) (omega (arith, also)) said)
