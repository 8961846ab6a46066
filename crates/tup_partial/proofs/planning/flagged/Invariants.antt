use Rattle.std.proofs.Common.{◌≡◌, ℕ, map}
use Rattle.std.specs.Map.Iter.{deref_pair}
use Rattle.tup_partial.proofs.planning.flagged.Given as goal

abbrev pub invariant-loop-number : goal.invariant-loop-number
invariant-loop-number l = l.numbers ≡ map (λ (flag : ℕ × Unit {0}). flag.0) (map deref_pair l.yielded)
