use Rattle.std.proofs.Common.{◌≡◌, ◌++◌, drop}
use Rattle.tup_graph.specs.Transactions.{flag_edits}
use Rattle.tup_graph.proofs.nodes.Nodes.flag.Given as goal

abbrev pub invariant-loop-rule : goal.invariant-loop-rule
invariant-loop-rule l = l.edits ++ flag_edits (drop l.rule-index l.rules) ≡ flag_edits l.rules
