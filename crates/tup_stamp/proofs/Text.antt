-- the kit's hex text is this crate's
use Rattle.std.proofs.Common.{◌≡◌, ℕ, List, [], ◌∷◌, ap, refl, ◌/◌, ◌%◌}
use Rattle.hex.specs.Hex.{encode_with, encode_lower}
use Rattle.tup_stamp.specs.Hex.{hex_text, digit}

pub encode_lower-hex_text : (bytes : List ℕ) → encode_lower bytes ≡ hex_text bytes
unfolding encode_with
encode_lower-hex_text [] = refl
encode_lower-hex_text (byte ∷ bytes) = ap (λ rest. digit (byte / 16) ∷ digit (byte % 16) ∷ rest) (encode_lower-hex_text bytes)
