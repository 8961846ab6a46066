use Rattle.std.proofs.Common.{◌≡◌, length}
use denote.Text.{Utf8}
use denote.Shadow.{shadow}
use Rattle.std.specs.Str.{chars}
use Rattle.tup_glob.specs.Fit.{behind_run as others_of, match_left}
use Rattle.tup_glob.proofs.fit.others_match.Given as goal

-- it is for the symbols that are left whether the others match
abbrev pub invariant-loop-others : goal.invariant-loop-others
invariant-loop-others l = shadow (Utf8 l.left) × (match_left (others_of l.fn.symbols) (chars l.fn.left) ≡ match_left (others_of l.symbols) (chars l.left))

abbrev pub decreases-loop-others : goal.decreases-loop-others
decreases-loop-others l = length l.symbols
