use Rattle.std.proofs.Common.{◌≡◌, ◌++◌, map, drop}
use Rattle.tup_rule_diff.specs.Edits.{run_so}
use Rattle.tup_rule_diff.proofs.putting.push_runs.Given as goal

abbrev pub invariant-loop-number : goal.invariant-loop-number
invariant-loop-number l = l.edits ++ map run_so (drop l.number-index l.runs) ≡ l.fn.edits ++ map run_so l.runs
