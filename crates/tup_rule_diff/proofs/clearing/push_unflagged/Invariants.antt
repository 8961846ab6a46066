use Rattle.std.proofs.Common.{◌≡◌, ◌++◌, map}
use Rattle.std.specs.Map.Iter.{deref_pair}
use Rattle.tup_rule_diff.specs.Edits.{unflag}
use Rattle.tup_rule_diff.proofs.clearing.push_unflagged.Given as goal

abbrev pub invariant-loop-number : goal.invariant-loop-number
invariant-loop-number l = l.edits ≡ l.fn.edits ++ map unflag (map deref_pair l.yielded)
