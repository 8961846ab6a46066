-- The lines of a Tupfile, from the manual; the limit, the trimming, and the numbers of joined lines are own.
-- Only the last backslash of a continued line is dropped, and a byte order mark is an ordinary character. The number
-- of a line stays at the last number of 32 bits.
use Rattle.std.specs.Prelude.{ℕ, ◌+◌, ◌-◌, min, nat_lt, Bool, false, not, ◌==◌, if◌then◌else◌, List, [], ◌∷◌, ◌++◌, length, take, slice_index, slice_get, count_by, Some, None, Result, Ok, Err}
use Rattle.std.specs.List.{filter, flat_map}
use Rattle.std.specs.Str.{is_utf8}
use Rattle.std.specs.Str.Lossy.{utf8_valid_len}
use Rattle.std.specs.Str.Lines.{lines as cut_lines}
use Rattle.tup_lex.specs.Blank.{trim}
use Rattle.tup_lex.specs.declared.fault.LexFault.{LexFault}
use Rattle.tup_lex.specs.declared.fault.LexFault.TheVariants.{NotUtf8, LineTooLong}
use Rattle.tup_lex.specs.declared.line.Line.{Line}

-- a line by its number and its bytes
abbrev pub line : ℕ → List ℕ → Line
line number text = record { number = number; text = text }

-- the number of the line that has so many before it; the last number of a `u32` stands for all above it
abbrev pub line_number : ℕ → ℕ
line_number before = min (before + 1) 4294967295

-- lines with their numbers, where so many stand before them
abbrev pub numbered : ℕ → List (List ℕ) → List Line
numbered before [] = []
numbered before (text ∷ more) = line (line_number before) text ∷ numbered (before + 1) more

-- whether a line goes on in the next one: its last byte is a backslash
abbrev pub goes_on : List ℕ → Bool
goes_on text = slice_index text (length text - 1) == 92

-- a line without the backslash at its end
abbrev pub unbroken : List ℕ → List ℕ
unbroken text = if goes_on text then take (length text - 1) text else text

-- a line joined with the first of those behind it, under its own number; with nothing behind it, it stays
abbrev pub onto_next : ℕ → List ℕ → List Line → List Line
onto_next number text [] = line number text ∷ []
onto_next number text (next ∷ more) = line number (text ++ next.text) ∷ more

-- lines joined where one goes on
abbrev pub joined : List Line → List Line
joined [] = []
joined (one ∷ more) = if goes_on one.text then onto_next one.number (unbroken one.text) (joined more) else one ∷ joined more

-- whether a trimmed text says something: it isn't empty, and no comment
abbrev pub says_something : List ℕ → Bool
says_something [] = false
says_something (byte ∷ _) = not (byte == 35)

-- a line without the blanks at its ends, if it then says something
abbrev pub told : Line → List Line
told one = let text = trim one.text in if says_something text then line one.number text ∷ [] else []

-- whether a text has more bytes than a line may have
abbrev pub is_long : List ℕ → Bool
is_long text = nat_lt 65535 (length text)

-- whether a joined line has, before it is trimmed
abbrev pub is_too_long : Line → Bool
is_too_long one = is_long one.text

-- what joined lines say, in order; the first of them that is too long is refused
abbrev pub said : List Line → Result (List Line) LexFault
said all = elim (slice_get (filter is_too_long all) 0) [ Some one ↦ Err (LineTooLong one.number) | None ↦ Ok (flat_map told all) ]

-- the lines of a file as they were cut at its line feeds, each joined with those in which it goes on
abbrev pub joined_lines : List ℕ → List Line
joined_lines file = joined (numbered 0 (cut_lines file))

-- the number of the line in which the first wrong byte of a file stands
abbrev pub wrong_line : List ℕ → ℕ
wrong_line file = line_number (count_by (λ byte. byte == 10) (take (utf8_valid_len file) file))

-- the lines that a file gives
abbrev pub lines : List ℕ → Result (List Line) LexFault
lines file = if is_utf8 file then said (joined_lines file) else Err (NotUtf8 (wrong_line file))
