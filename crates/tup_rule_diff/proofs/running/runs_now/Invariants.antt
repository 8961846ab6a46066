use Rattle.std.proofs.Common.{◌≡◌, take}
use Rattle.tup_rule_diff.specs.Numbered.{numbered}
use Rattle.tup_rule_diff.specs.Running.{run_at}
use Rattle.tup_rule_diff.proofs.running.runs_now.Given as goal

abbrev pub invariant-loop-at : goal.invariant-loop-at
invariant-loop-at l = l.runs ≡ numbered (run_at l.nodes) 0 (take l.at l.befores)
