use Rattle.std.proofs.Common.{◌≡◌, ℕ, length, drop, eqb}
use denote.Text.{Utf8}
use denote.Shadow.{shadow}
use Rattle.std.specs.List.{position_from}
use Rattle.std.specs.Str.{chars}
use Rattle.tup_glob.specs.Read.{inner_len}
use Rattle.tup_glob.proofs.read.body.Given as goal

-- no bracket came among so many characters
abbrev pub invariant-loop-char : goal.invariant-loop-char
invariant-loop-char l = shadow (Utf8 l.rest) × ((n : ℕ) × (chars l.rest ≡ drop n (chars l.text)) × (inner_len (chars l.text) ≡ position_from (λ char. eqb char 93) n (chars l.rest)))

abbrev pub decreases-loop-char : goal.decreases-loop-char
decreases-loop-char l = length (chars l.rest)
