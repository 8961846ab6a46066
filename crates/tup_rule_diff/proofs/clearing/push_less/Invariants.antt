use Rattle.std.proofs.Common.{◌≡◌, ◌≤◌, ◌++◌, length, drop}
use Rattle.tup_rule_diff.specs.Edits.{less_edits}
use Rattle.tup_rule_diff.proofs.clearing.push_less.Given as goal

abbrev pub invariant-rules : goal.invariant-rules
invariant-rules l = (l.at ≤ length l.rules) × (l.edits ≡ l.fn.edits ++ less_edits l.count l.at (drop l.at l.rules))

abbrev pub decreases-rules : goal.decreases-rules
decreases-rules l = l.at
