use Rattle.std.proofs.Common.{◌≡◌, ◌++◌, take}
use Rattle.tup_rule_diff.proofs.running.push_all.Given as goal

abbrev pub invariant-loop-number : goal.invariant-loop-number
invariant-loop-number l = l.found ≡ l.fn.found ++ take l.number-index l.numbers
