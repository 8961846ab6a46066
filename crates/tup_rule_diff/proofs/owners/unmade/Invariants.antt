use Rattle.std.proofs.Common.{◌≡◌, map}
use Rattle.std.specs.Map.Iter.{deref_pair}
use Rattle.tup_rule_diff.proofs.Owning.{unmade_of}
use Rattle.tup_rule_diff.proofs.owners.unmade.Given as goal

abbrev pub invariant-loop-path : goal.invariant-loop-path
invariant-loop-path l = l.owned ≡ unmade_of (map deref_pair l.yielded)
