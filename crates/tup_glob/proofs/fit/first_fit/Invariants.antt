use Rattle.std.proofs.Common.{◌≡◌, length}
use denote.Text.{Utf8}
use denote.Shadow.{shadow}
use Rattle.std.specs.Str.{chars}
use Rattle.tup_glob.specs.Fit.{first_fit as first_place}
use Rattle.tup_glob.proofs.fit.first_fit.Given as goal

-- the symbols fit at no place before
abbrev pub invariant-places : goal.invariant-places
invariant-places l = shadow (Utf8 l.place) × (first_place l.symbols (chars l.name) ≡ first_place l.symbols (chars l.place))

abbrev pub decreases-places : goal.decreases-places
decreases-places l = length (chars l.place)
