-- How strace writes a text in quotes, and how it is read. A byte that can be printed stands for itself. Behind a backslash
-- stand a letter, a quote or a backslash, or a number in octal: of three digits where the next byte is a digit, and else
-- of as few as it has.
use Rattle.std.specs.Prelude.{ℕ, ◌+◌, ◌*◌, ◌/◌, ◌%◌, ◌==◌, nat_lt, nat_le, ◌&&◌, ◌||◌, Bool, false, if◌then◌else◌, List, [], ◌∷◌, ◌++◌, fold, Option, Some, None}
use Rattle.tup_trace.specs.declared.quoting.Escape.{Escape}
use Rattle.tup_trace.specs.declared.quoting.Escape.TheVariants.{Outside, Backslash, One, Two, Bad}
use Rattle.tup_trace.specs.declared.quoting.Unquoting.{Unquoting}

-- ---- how it is written

-- whether a byte is a digit of an octal number
abbrev pub is_octal : ℕ → Bool
is_octal byte = nat_le 48 byte && nat_lt byte 56

-- the letter that stands for a byte behind a backslash
abbrev pub byte_letter : ℕ → Option ℕ
byte_letter byte =
    if byte == 9 then Some 116 else
    if byte == 10 then Some 110 else
    if byte == 11 then Some 118 else
    if byte == 12 then Some 102 else
    if byte == 13 then Some 114 else
    if byte == 34 then Some 34 else
    if byte == 92 then Some 92 else None

-- a byte in octal, of three digits or of as few as it has
abbrev pub octal_digits : Bool → ℕ → List ℕ
octal_digits all byte =
    if all || nat_le 64 byte then (48 + byte / 64) ∷ (48 + byte / 8 % 8) ∷ (48 + byte % 8) ∷ [] else
    if nat_le 8 byte then (48 + byte / 8) ∷ (48 + byte % 8) ∷ [] else (48 + byte) ∷ []

-- whether a text begins with a digit
abbrev pub begins_octal : List ℕ → Bool
begins_octal [] = false
begins_octal (byte ∷ more) = is_octal byte

-- a byte as it is written, by its letter, with or without a digit behind it
abbrev pub quoted_as : Option ℕ → ℕ → Bool → List ℕ
quoted_as (Some letter) byte digit = 92 ∷ letter ∷ []
quoted_as None byte digit = if nat_le 32 byte && nat_lt byte 127 then byte ∷ [] else 92 ∷ octal_digits digit byte

-- a text as it is written
abbrev pub quoted : List ℕ → List ℕ
quoted [] = []
quoted (byte ∷ more) = quoted_as (byte_letter byte) byte (begins_octal more) ++ quoted more

-- ---- how it is read, byte by byte

-- the byte that a letter stands for behind a backslash
abbrev pub letter_byte : ℕ → Option ℕ
letter_byte letter =
    if letter == 116 then Some 9 else
    if letter == 110 then Some 10 else
    if letter == 118 then Some 11 else
    if letter == 102 then Some 12 else
    if letter == 114 then Some 13 else
    if letter == 34 then Some 34 else
    if letter == 92 then Some 92 else None

-- what digits spell: the code of the digit 0 is a multiple of 8
abbrev pub octal_1 : ℕ → ℕ
octal_1 first = first % 8

-- what two digits spell
abbrev pub octal_2 : ℕ → ℕ → ℕ
octal_2 first second = first % 8 * 8 + second % 8

-- what three digits spell
abbrev pub octal_3 : ℕ → ℕ → ℕ → ℕ
octal_3 first second third = first % 8 * 64 + second % 8 * 8 + third % 8

-- a text of which nothing was read
abbrev pub nothing_read : Unquoting
nothing_read = record { text = []; escape = Outside }

-- a byte of the text more, and nothing left open
abbrev pub with_byte : Unquoting → ℕ → Unquoting
with_byte read byte = record { text = read.text ++ byte ∷ []; escape = Outside }

-- the same text, with an escape left open
abbrev pub left_open : Unquoting → Escape → Unquoting
left_open read escape = record { text = read.text; escape = escape }

-- a byte outside of escapes
abbrev pub with_plain : Unquoting → ℕ → Unquoting
with_plain read byte = if byte == 92 then left_open read Backslash else with_byte read byte

-- the byte behind a backslash
abbrev pub with_letter : Unquoting → ℕ → Unquoting
with_letter read byte = if is_octal byte then left_open read (One byte) else with (letter_byte byte)
  where
    with : Option ℕ → Unquoting
    with (Some said) = with_byte read said
    with None = left_open read Bad

-- the second or the third digit of an octal number
abbrev pub with_octal : Unquoting → ℕ → Unquoting
with_octal read byte = with read.escape
  where
    with : Escape → Unquoting
    with (One first) = left_open read (Two first byte)
    with (Two first second) = if nat_lt (octal_3 first second byte) 256 then with_byte read (octal_3 first second byte) else left_open read Bad
    with other = read

-- an octal number of one or two digits is over
abbrev pub closed : Unquoting → Unquoting
closed read = with read.escape
  where
    with : Escape → Unquoting
    with (One first) = with_byte read (octal_1 first)
    with (Two first second) = with_byte read (octal_2 first second)
    with other = read

-- a byte more of a text
abbrev pub read_quoted : Unquoting → ℕ → Unquoting
read_quoted read byte = with read.escape
  where
    with : Escape → Unquoting
    with Outside = with_plain read byte
    with Backslash = with_letter read byte
    with Bad = read
    with (One first) = if is_octal byte then with_octal read byte else with_plain (closed read) byte
    with (Two first second) = if is_octal byte then with_octal read byte else with_plain (closed read) byte

-- the text, if nothing is left open
abbrev pub whole : Unquoting → Option (List ℕ)
whole read = with read.escape
  where
    with : Escape → Option (List ℕ)
    with Outside = Some read.text
    with other = None

-- the text that was written so
abbrev pub unquoted : List ℕ → Option (List ℕ)
unquoted text = whole (closed (fold read_quoted nothing_read text))
