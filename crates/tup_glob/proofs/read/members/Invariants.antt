use Rattle.std.proofs.Common.{◌≡◌, ◌++◌, length}
use denote.Text.{Utf8}
use denote.Shadow.{shadow}
use Rattle.std.specs.Str.{chars}
use Rattle.tup_glob.specs.Read.{members as members_of}
use Rattle.tup_glob.proofs.read.members.Given as goal

-- the members so far, and those of the text that is left
abbrev pub invariant-loop-first : goal.invariant-loop-first
invariant-loop-first l = shadow (Utf8 l.rest) × (l.all ++ members_of (chars l.rest) ≡ members_of (chars l.text))

abbrev pub decreases-loop-first : goal.decreases-loop-first
decreases-loop-first l = length (chars l.rest)
