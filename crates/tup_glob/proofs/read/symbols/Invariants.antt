use Rattle.std.proofs.Common.{◌≡◌, length}
use denote.Text.{Utf8}
use denote.Shadow.{shadow}
use Rattle.std.specs.Str.{chars}
use Rattle.tup_glob.specs.Read.{onto, symbols_of}
use Rattle.tup_glob.proofs.read.symbols.Given as goal

-- the symbols so far, and those of the text that is left
abbrev pub invariant-loop-char : goal.invariant-loop-char
invariant-loop-char l = shadow (Utf8 l.rest) × (onto l.all (symbols_of l.rest) ≡ symbols_of l.pattern)

abbrev pub decreases-loop-char : goal.decreases-loop-char
decreases-loop-char l = length (chars l.rest)
