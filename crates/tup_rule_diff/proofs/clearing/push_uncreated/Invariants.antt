use Rattle.std.proofs.Common.{◌≡◌, ◌++◌, map}
use Rattle.std.specs.Map.Iter.{deref_pair}
use Rattle.tup_rule_diff.specs.Edits.{uncreate}
use Rattle.tup_rule_diff.proofs.clearing.push_uncreated.Given as goal

abbrev pub invariant-loop-dir : goal.invariant-loop-dir
invariant-loop-dir l = l.edits ≡ l.fn.edits ++ map uncreate (map deref_pair l.yielded)
