use Rattle.std.proofs.Common.{◌≡◌, drop}
use denote.Text.{Utf8}
use denote.Shadow.{shadow}
use Rattle.std.specs.Str.{chars}
use Rattle.tup_glob.specs.Fit.{fit as fitted}
use Rattle.tup_glob.proofs.fit.fit.Given as goal

-- what is left of the name is for the symbols that are left
abbrev pub invariant-loop-symbol : goal.invariant-loop-symbol
invariant-loop-symbol l = shadow (Utf8 l.rest) × (fitted l.symbols (chars l.name) ≡ fitted (drop l.symbol-index l.symbols) (chars l.rest))
