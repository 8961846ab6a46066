-- The words of a rule, and what each looks like. The forms are the manual's, and what is bad of them is own.
use Rattle.std.specs.Prelude.{ℕ, ◌+◌, ◌-◌, ◌==◌, nat_lt, Bool, false, not, ◌&&◌, ◌||◌, List, [], ◌∷◌, length, drop, slice_index, codes, bytes_eq}
use Rattle.std.specs.List.{filter, slice_split, suffix_len}
use Rattle.tup_lex.specs.Blank.{is_blank}
use Rattle.tup_lex.specs.declared.span.Span.{Span}

-- a word: the place in the text where it begins, and its bytes
abbrev pub Word : Type 0
Word = ℕ × List ℕ

-- the bytes of a text from one place up to another
abbrev pub span : ℕ → ℕ → Span
span from to = record { from = from; to = to }

-- where a word stands
abbrev pub span_of : Word → Span
span_of word = span word.0 (word.0 + length word.1)

-- pieces that are parted by one byte each, with the place where each begins
abbrev pub placed : ℕ → List (List ℕ) → List Word
placed at [] = []
placed at (piece ∷ more) = (at, piece) ∷ placed (at + length piece + 1) more

-- whether there is something between two bytes that part words
abbrev pub is_some_word : Word → Bool
is_some_word word = nat_lt 0 (length word.1)

-- the words of a part of a text that begins at a place of it: what stands between blanks
abbrev pub words : ℕ → List ℕ → List Word
words at part = filter is_some_word (placed at (slice_split is_blank part))

-- whether a text begins with a byte
abbrev pub begins_with : ℕ → List ℕ → Bool
begins_with byte [] = false
begins_with byte (first ∷ _) = first == byte

-- one byte in front, another at the end, and something between them
abbrev pub is_enclosed : ℕ → ℕ → List ℕ → Bool
is_enclosed opening closing text = begins_with opening text && slice_index text (length text - 1) == closing && nat_lt 2 (length text)

-- the last name of a path: what follows the last slash
abbrev pub last_name : List ℕ → List ℕ
last_name text = drop (length text - suffix_len (λ byte. not (byte == 47)) text) text

-- the word that parts inputs from order-only inputs, and outputs from extra ones
abbrev pub is_bar : Word → Bool
is_bar word = bytes_eq word.1 (codes "|")

-- the word in front that makes one command for each input
abbrev pub is_foreach : Word → Bool
is_foreach word = bytes_eq word.1 (codes "foreach")

-- `{name}`
abbrev pub is_bin : Word → Bool
is_bin word = is_enclosed 123 125 word.1

-- `<name>`, or that in a directory
abbrev pub is_group : Word → Bool
is_group word = is_enclosed 60 62 (last_name word.1)

-- a bin or a group, to which the outputs of a rule are given
abbrev pub is_gift : Word → Bool
is_gift word = is_bin word || is_group word

-- where the name between the braces of a bin stands
abbrev pub inner_span : Word → Span
inner_span word = span (word.0 + 1) (word.0 + length word.1 - 1)

-- whether a word may stand in a rule: it doesn't begin like a caret part, and what begins like a bin or a group is one
abbrev pub is_sound : Word → Bool
is_sound word =
    not (begins_with 94 word.1) &&
    (not (begins_with 123 word.1) || is_bin word) &&
    (not (begins_with 60 (last_name word.1)) || is_group word)
