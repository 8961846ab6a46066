use Rattle.std.proofs.Common.{◌≡◌, ◌++◌, drop}
use Rattle.tup_graph.specs.Transactions.{flag_edits}
use Rattle.tup_rule_diff.proofs.putting.push_flags.Given as goal

abbrev pub invariant-loop-number : goal.invariant-loop-number
invariant-loop-number l = l.edits ++ flag_edits (drop l.number-index l.numbers) ≡ l.fn.edits ++ flag_edits l.numbers
