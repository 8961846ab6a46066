use Rattle.std.proofs.Common.{◌≡◌, ◌++◌, take}
use Rattle.tup_rule_diff.specs.Numbered.{numbered}
use Rattle.tup_rule_diff.specs.Running.{flag_at}
use Rattle.tup_rule_diff.proofs.running.push_flagged.Given as goal

abbrev pub invariant-loop-at : goal.invariant-loop-at
invariant-loop-at l = l.flags ≡ l.fn.flags ++ numbered (flag_at l.nodes) 0 (take l.at l.befores)
