use Rattle.std.proofs.Common.{◌≡◌, ℕ, ◌<◌, false, Some, get_or}
use Rattle.std.specs.Prelude.{slice_get}
use Rattle.tup_rule.specs.declared.rule.Rule.{Rule}
use Rattle.tup_rule.specs.Rule.{writes}
use Rattle.tup_board.proofs.access.one_writes.Given as goal

abbrev pub invariant-loop-number : goal.invariant-loop-number
invariant-loop-number l = (k : ℕ) → k < l.number-index → (rule : Rule) → slice_get l.rules (get_or l.numbers k 0) ≡ Some rule → writes rule l.path ≡ false
