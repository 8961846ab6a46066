use Rattle.std.proofs.Common.{ℕ, ◌<◌, slice_index}
use Rattle.tup_graph.specs.Kept.{IsRuleAt}
use Rattle.tup_rule_diff.proofs.before.number_before.Given as goal

abbrev pub invariant-loop-number : goal.invariant-loop-number
invariant-loop-number l = (k : ℕ) → k < l.number-index → IsRuleAt l.nodes (slice_index l.number-items k) l.rule → ⊥
