use Rattle.std.proofs.Common.{◌≡◌, ℕ, None, take}
use Rattle.std.specs.FinMap as finite
use Rattle.tup_why.proofs.Finding.{EachIn}
use Rattle.tup_why.proofs.cause.unrecorded.Given as goal

abbrev pub invariant-loop-number : goal.invariant-loop-number
invariant-loop-number l = EachIn (λ (number : ℕ). finite.get l.nodes.runs number ≡ None → ⊥) (take l.number-index l.numbers)
