use Rattle.std.proofs.Common.{◌≡◌, ◌++◌, length}
use Rattle.std.specs.Prelude.{reverse}
use Rattle.tup_why.proofs.reasons.forward.Given as goal

abbrev pub invariant-links : goal.invariant-links
invariant-links l = l.links ++ reverse l.backward.items ≡ reverse l.fn.backward.items

abbrev pub decreases-links : goal.decreases-links
decreases-links l = length l.backward.items
