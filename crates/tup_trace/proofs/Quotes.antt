-- What was written in quotes reads back.
use Rattle.std.proofs.Common.{◌≡◌, ℕ, ◌+◌, ◌*◌, ◌/◌, ◌%◌, ◌<◌, Bool, true, false, ◌&&◌, eqb, leb, ltb, List, [], ◌∷◌, ◌++◌, Option, Some, None, All, refl, ap, sym, subst, ◌∙◌, append_assoc, arith}
use Rattle.std.proofs.lemmas.Bool.{leb-false}
use Rattle.std.proofs.lemmas.Bool.Decides.{nat_tests}
use Rattle.std.proofs.lemmas.List.{append-nil}
use Rattle.std.proofs.lemmas.List.Elements.{All-head, All-tail}
use Rattle.std.proofs.lemmas.List.Sums.{fold-append}
use Rattle.std.specs.List.{fold}
use Rattle.tup_trace.specs.Quoting.{is_octal, byte_letter, octal_digits, begins_octal, quoted_as, quoted, octal_2, octal_3, read_quoted, with_plain, closed, whole, unquoted}
use Rattle.tup_trace.specs.declared.quoting.Escape.{Escape}
use Rattle.tup_trace.specs.declared.quoting.Escape.TheVariants.{Outside, One, Two}
use Rattle.tup_trace.specs.declared.quoting.Unquoting.{Unquoting}

abbrev pub at : List ℕ → Escape → Unquoting
at text escape = record { text = text; escape = escape }

-- ---- digits
digit_is : (d : ℕ) → d < 8 → is_octal (48 + d) ≡ true
digit_is d low = grind (arith, nat_tests)

digit_value : (d : ℕ) → d < 8 → (48 + d) % 8 ≡ d
digit_value d low = omega arith

three : (text : List ℕ) (a b c : ℕ) → a < 8 → b < 8 → c < 8 → a * 64 + b * 8 + c < 256
    → fold read_quoted (at text Outside) (92 ∷ (48 + a) ∷ (48 + b) ∷ (48 + c) ∷ []) ≡ at (text ++ (a * 64 + b * 8 + c) ∷ []) Outside
three text a b c la lb lc small =
    let value : octal_3 (48 + a) (48 + b) (48 + c) ≡ a * 64 + b * 8 + c = omega arith in
    let fits : ltb (a * 64 + b * 8 + c) 256 ≡ true = grind (arith, nat_tests) in
    simp (digit_is a la, digit_is b lb, digit_is c lc, fits, value) refl

one : (text : List ℕ) (a : ℕ) → a < 8 → fold read_quoted (at text Outside) (92 ∷ (48 + a) ∷ []) ≡ at text (One (48 + a))
one text a la = simp (digit_is a la) refl

two : (text : List ℕ) (a b : ℕ) → a < 8 → b < 8 → fold read_quoted (at text Outside) (92 ∷ (48 + a) ∷ (48 + b) ∷ []) ≡ at text (Two (48 + a) (48 + b))
two text a b la lb = simp (digit_is a la, digit_is b lb) refl

-- ---- a byte
-- a byte that is no digit ends what is open
abbrev pub EndsOpen : List ℕ → Escape → Type 0
EndsOpen text escape = (byte : ℕ) → is_octal byte ≡ false → read_quoted (at text escape) byte ≡ with_plain (closed (at text escape)) byte

-- what reading a byte leaves: the byte, or an octal number that the next byte ends
data Left (text : List ℕ) (byte : ℕ) (digit : Bool) (read : Unquoting) : Type 0 where
  over : read ≡ at (text ++ byte ∷ []) Outside → Left text byte digit read
  left : (escape : Escape) → read ≡ at text escape → EndsOpen text escape → closed (at text escape) ≡ at (text ++ byte ∷ []) Outside → digit ≡ false → Left text byte digit read

by_test : (a b : ℕ) (P : Type 0) → (a ≡ b → P) → (eqb a b ≡ false → P) → P
by_test a b P same other = (elim (eqb a b) as (λ t. eqb a b ≡ t → P) [
  | true ↦ λ e. same (grind (arith, nat_tests))
  | false ↦ λ e. other e
]) refl

by_bool : (b : Bool) (P : Type 0) → (b ≡ true → P) → (b ≡ false → P) → P
by_bool b P same other = (elim b as (λ t. b ≡ t → P) [ true ↦ same | false ↦ other ]) refl

three_of : (text : List ℕ) (byte : ℕ) → byte < 256
    → fold read_quoted (at text Outside) (92 ∷ (48 + byte / 64) ∷ (48 + byte / 8 % 8) ∷ (48 + byte % 8) ∷ []) ≡ at (text ++ byte ∷ []) Outside
three_of text byte small =
    let value : byte / 64 * 64 + byte / 8 % 8 * 8 + byte % 8 ≡ byte = omega arith in
    three text (byte / 64) (byte / 8 % 8) (byte % 8) (omega arith) (omega arith) (omega arith) (omega (arith, value)) ∙ ap (λ b. at (text ++ b ∷ []) Outside) value

two_left : (text : List ℕ) (byte : ℕ) → byte < 64 → Left text byte false (fold read_quoted (at text Outside) (92 ∷ (48 + byte / 8) ∷ (48 + byte % 8) ∷ []))
two_left text byte small =
    let value : octal_2 (48 + byte / 8) (48 + byte % 8) ≡ byte = omega arith in
    left (Two (48 + byte / 8) (48 + byte % 8)) (two text (byte / 8) (byte % 8) (omega arith) (omega arith)) (λ b none. simp none refl) (ap (λ b. at (text ++ b ∷ []) Outside) value) refl

one_left : (text : List ℕ) (byte : ℕ) → byte < 8 → Left text byte false (fold read_quoted (at text Outside) (92 ∷ (48 + byte) ∷ []))
one_left text byte small =
    left (One (48 + byte)) (one text byte small) (λ b none. simp none refl) (ap (λ b. at (text ++ b ∷ []) Outside) (digit_value byte small)) refl

octal_left : (text : List ℕ) (byte : ℕ) (digit : Bool) → byte < 256 → Left text byte digit (fold read_quoted (at text Outside) (92 ∷ octal_digits digit byte))
octal_left text byte true small = over (three_of text byte small)
octal_left text byte false small = by_bool (leb 64 byte) (Left text byte false (fold read_quoted (at text Outside) (92 ∷ octal_digits false byte)))
    (λ three. rw three (over (three_of text byte small)))
    (λ fewer. by_bool (leb 8 byte) (Left text byte false (fold read_quoted (at text Outside) (92 ∷ octal_digits false byte)))
    (λ two. rw (fewer, two) (two_left text byte (leb-false 64 byte fewer)))
    (λ one. rw (fewer, one) (one_left text byte (leb-false 8 byte one))))

plain_left : (text : List ℕ) (byte : ℕ) (digit : Bool) → byte < 256 → eqb byte 92 ≡ false → Left text byte digit (fold read_quoted (at text Outside) (quoted_as None byte digit))
plain_left text byte digit small other = by_bool (leb 32 byte && ltb byte 127) (Left text byte digit (fold read_quoted (at text Outside) (quoted_as None byte digit)))
    (λ printed. rw printed (over (simp other refl)))
    (λ octal. rw octal (octal_left text byte digit small))

-- a byte and how it is written
abbrev Reads : List ℕ → Bool → ℕ → Type 0
Reads text digit byte = Left text byte digit (fold read_quoted (at text Outside) (quoted_as (byte_letter byte) byte digit))

known : (text : List ℕ) (digit : Bool) (byte code : ℕ) → Reads text digit code → byte ≡ code → Reads text digit byte
known text digit byte code reads e = subst (Reads text digit) (sym e) reads

byte_left : (text : List ℕ) (byte : ℕ) (digit : Bool) → byte < 256 → Reads text digit byte
byte_left text byte digit small =
    by_test byte 9 (Reads text digit byte) (known text digit byte 9 (over refl)) (λ n9.
    by_test byte 10 (Reads text digit byte) (known text digit byte 10 (over refl)) (λ n10.
    by_test byte 11 (Reads text digit byte) (known text digit byte 11 (over refl)) (λ n11.
    by_test byte 12 (Reads text digit byte) (known text digit byte 12 (over refl)) (λ n12.
    by_test byte 13 (Reads text digit byte) (known text digit byte 13 (over refl)) (λ n13.
    by_test byte 34 (Reads text digit byte) (known text digit byte 34 (over refl)) (λ n34.
    by_test byte 92 (Reads text digit byte) (known text digit byte 92 (over refl)) (λ n92.
    let none : byte_letter byte ≡ None = simp (n9, n10, n11, n12, n13, n34, n92) refl in
    subst (λ (letter : Option ℕ). Left text byte digit (fold read_quoted (at text Outside) (quoted_as letter byte digit))) (sym none) (plain_left text byte digit small n92))))))))

-- ---- a text
-- what is written of a byte that is no digit begins with no digit
pub record Begins (bytes : List ℕ) : Type 0 where
  pub first : ℕ
  pub rest : List ℕ
  pub is : bytes ≡ first ∷ rest
  pub other : is_octal first ≡ false

begins_as : (letter : Option ℕ) (byte : ℕ) (digit : Bool) → is_octal byte ≡ false → Begins (quoted_as letter byte digit)
begins_as (Some letter) byte digit other = record { first = 92; rest = letter ∷ []; is = refl; other = refl }
begins_as None byte digit other = by_bool (leb 32 byte && ltb byte 127) (Begins (quoted_as None byte digit))
    (λ printed. rw printed (record { first = byte; rest = []; is = refl; other = other }))
    (λ octal. rw octal (record { first = 92; rest = octal_digits digit byte; is = refl; other = refl }))

ended_first : (text : List ℕ) (escape : Escape) (said : List ℕ) → EndsOpen text escape → closed (at text escape) ≡ at said Outside → (more : List ℕ) → begins_octal more ≡ false
    → closed (fold read_quoted (at text escape) (quoted more)) ≡ closed (fold read_quoted (at said Outside) (quoted more))
ended_first text escape said ends close [] none = close
ended_first text escape said ends close (byte ∷ more) none =
    let begins = begins_as (byte_letter byte) byte (begins_octal more) none in
    let step : read_quoted (at text escape) begins.first ≡ read_quoted (at said Outside) begins.first = ends begins.first begins.other ∙ ap (λ read. with_plain read begins.first) close in
    ap (λ front. closed (fold read_quoted (at text escape) (front ++ quoted more))) begins.is
    ∙ ap (λ read. closed (fold read_quoted read (begins.rest ++ quoted more))) step
    ∙ ap (λ front. closed (fold read_quoted (at said Outside) (front ++ quoted more))) (sym begins.is)

goes_on : (text : List ℕ) (byte : ℕ) (more : List ℕ) (read : Unquoting) → Left text byte (begins_octal more) read
    → closed (fold read_quoted read (quoted more)) ≡ closed (fold read_quoted (at (text ++ byte ∷ []) Outside) (quoted more))
goes_on text byte more read (over same) = ap (λ read. closed (fold read_quoted read (quoted more))) same
goes_on text byte more read (left escape same ends close none) =
    ap (λ read. closed (fold read_quoted read (quoted more))) same ∙ ended_first text escape (text ++ byte ∷ []) ends close more none

all_back : (bytes text : List ℕ) → All (λ byte. byte < 256) bytes → closed (fold read_quoted (at text Outside) (quoted bytes)) ≡ at (text ++ bytes) Outside
all_back [] text all = ap (λ text. at text Outside) (sym (append-nil text))
all_back (byte ∷ more) text all =
    let written = quoted_as (byte_letter byte) byte (begins_octal more) in
    ap closed (fold-append read_quoted (at text Outside) written (quoted more))
    ∙ goes_on text byte more (fold read_quoted (at text Outside) written) (byte_left text byte (begins_octal more) (All-head (λ byte. byte < 256) byte more all))
    ∙ all_back more (text ++ byte ∷ []) (All-tail (λ byte. byte < 256) byte more all)
    ∙ ap (λ text. at text Outside) (append_assoc text (byte ∷ []) more)

pub reads_back : (bytes : List ℕ) → All (λ byte. byte < 256) bytes → unquoted (quoted bytes) ≡ Some bytes
reads_back bytes all = ap whole (all_back bytes [] all)
