-- The first blank of a line is a byte by itself, so that the line may be cut there.
use Rattle.std.proofs.Common.{◌≡◌, ℕ, ◌<◌, true, List, get_or, Some, position, sym, arith}
use Rattle.std.proofs.lemmas.Bool.Decides.{nat_tests}
use Rattle.std.proofs.lemmas.List.Quantifiers.{position-Some}
use Rattle.tup_lex.specs.Blank.{is_blank}

small_blank : (byte : ℕ) → is_blank byte ≡ true → byte < 128
small_blank byte e = grind (arith, nat_tests)

pub blank_at : (line : List ℕ) (at : ℕ) → Some at ≡ position is_blank line → get_or line at 0 < 128
blank_at line at e = small_blank (get_or line at 0) (position-Some is_blank line at 0 (sym e)).1
