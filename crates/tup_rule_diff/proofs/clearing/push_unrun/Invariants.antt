use Rattle.std.proofs.Common.{◌≡◌, ◌++◌, map}
use Rattle.std.specs.Map.Iter.{deref_pair}
use Rattle.tup_rule_diff.specs.Edits.{unrun_edits}
use Rattle.tup_rule_diff.specs.Running.{keeps_run}
use Rattle.tup_rule_diff.proofs.clearing.push_unrun.Given as goal

abbrev pub invariant-loop-number : goal.invariant-loop-number
invariant-loop-number l = l.edits ≡ l.fn.edits ++ unrun_edits (keeps_run l.nodes l.befores) (map deref_pair l.yielded)
