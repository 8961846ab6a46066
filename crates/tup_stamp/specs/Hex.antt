-- Bytes written in base sixteen, as FIPS 180-4 and every tool that prints a digest write them.
use Rattle.std.specs.Prelude.{ℕ, ◌/◌, ◌%◌, List, [], ◌∷◌, codes, slice_index}

-- the digit of a number below 16, in lower case
abbrev pub digit : ℕ → ℕ
digit n = slice_index (codes "0123456789abcdef") n

-- two digits for each byte, the one for its high four bits first
abbrev pub hex_text : List ℕ → List ℕ
hex_text [] = []
hex_text (byte ∷ bytes) = digit (byte / 16) ∷ digit (byte % 16) ∷ hex_text bytes
