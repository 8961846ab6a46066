-- How a line of a trace is cut into its parts. Spaces, commas, round brackets and bars part words; a quote or an angle
-- begins a text, which ends at the quote or the angle that closes it and has escapes.
use Rattle.std.specs.Prelude.{ℕ, ◌==◌, ◌&&◌, ◌||◌, Bool, true, false, if◌then◌else◌, List, [], ◌∷◌, ◌++◌, fold, Option, Some, None}
use Rattle.tup_trace.specs.Quoting.{nothing_read, with_byte, read_quoted, closed}
use Rattle.tup_trace.specs.declared.quoting.Escape.{Escape}
use Rattle.tup_trace.specs.declared.quoting.Escape.TheVariants.{Backslash, Bad}
use Rattle.tup_trace.specs.declared.quoting.Unquoting.{Unquoting}
use Rattle.tup_trace.specs.declared.reading.Kind.{Kind}
use Rattle.tup_trace.specs.declared.reading.Kind.TheVariants as kind
use Rattle.tup_trace.specs.declared.reading.Reading.{Reading}
use Rattle.tup_trace.specs.declared.token.Token.{Token}
use Rattle.tup_trace.specs.declared.token.Token.TheVariants as token

-- whether a byte parts words: a space, a comma, a round bracket or a bar
abbrev pub is_gap : ℕ → Bool
is_gap byte = byte == 32 || byte == 44 || byte == 40 || byte == 41 || byte == 124

-- a line of which nothing was read
abbrev pub line_begun : Reading
line_begun = record { tokens = []; kind = kind.Gap; part = nothing_read }

-- the same reading, with another kind of part being read
abbrev pub of_kind : Reading → Kind → Reading
of_kind reading kind = record { tokens = reading.tokens; kind = kind; part = reading.part }

-- the same reading, with this read of its part
abbrev pub of_part : Reading → Unquoting → Reading
of_part reading part = record { tokens = reading.tokens; kind = reading.kind; part = part }

-- a byte that belongs to no part before it
abbrev pub begun : Reading → ℕ → Reading
begun reading byte =
    if byte == 34 then of_kind reading kind.Quoted else
    if byte == 60 then of_kind reading kind.Place else
    if is_gap byte then reading else of_part (of_kind reading kind.Word) (with_byte reading.part byte)

-- the part that was read
abbrev pub token_of : Kind → List ℕ → List Token
token_of kind.Gap text = []
token_of kind.Word text = token.Word text ∷ []
token_of kind.Quoted text = token.Quoted text ∷ []
token_of kind.Place text = token.Place text ∷ []

-- the part that is being read is over
abbrev pub part_ended : Reading → Reading
part_ended reading = record { tokens = reading.tokens ++ token_of reading.kind reading.part.text; kind = kind.Gap; part = nothing_read }

-- a byte behind one of a word
abbrev pub with_word : Reading → ℕ → Reading
with_word reading byte =
    if is_gap byte || byte == 34 || byte == 60 then begun (part_ended reading) byte
    else of_part reading (with_byte reading.part byte)

-- whether a text may end here: no backslash is open
abbrev pub may_close : Escape → Bool
may_close Backslash = false
may_close Bad = false
may_close other = true

-- a byte of a text that such a byte closes
abbrev pub within : Reading → ℕ → ℕ → Reading
within reading byte closing =
    if byte == closing && may_close reading.part.escape then part_ended (of_part reading (closed reading.part))
    else of_part reading (read_quoted reading.part byte)

-- a byte more of a line
abbrev pub read_byte : Reading → ℕ → Reading
read_byte reading byte = read reading.kind
  where
    read : Kind → Reading
    read kind.Gap = begun reading byte
    read kind.Word = with_word reading byte
    read kind.Quoted = within reading byte 34
    read kind.Place = within reading byte 62

-- the parts of a line that is over; none where a text is left open
abbrev pub tokens_read : Reading → Option (List Token)
tokens_read reading = read reading.kind
  where
    read : Kind → Option (List Token)
    read kind.Gap = Some reading.tokens
    read kind.Word = Some (part_ended reading).tokens
    read other = None

-- the parts of a line
abbrev pub tokens_of : List ℕ → Option (List Token)
tokens_of line = tokens_read (fold read_byte line_begun line)

-- whether nothing of a line was read but what parts words
abbrev pub is_new : Reading → Bool
is_new reading = new reading.kind reading.tokens
  where
    new : Kind → List Token → Bool
    new kind.Gap [] = true
    new other tokens = false
