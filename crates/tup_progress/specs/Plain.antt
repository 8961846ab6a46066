-- What is shown of a text. Own.
use Rattle.std.specs.Prelude.{ℕ, List, map, if◌then◌else◌, chars, encode_utf8_all}
use Rattle.std.specs.Char.{is_control}

-- a character as it is shown: a control character is a question mark
abbrev pub plain_char : ℕ → ℕ
plain_char c = if is_control c then 63 else c

-- a text as it is shown: character by character
abbrev pub plain : List ℕ → List ℕ
plain text = encode_utf8_all (map plain_char (chars text))
