use Rattle.std.proofs.Common.{◌≡◌, ℕ, take}
use Rattle.tup_closure.specs.Grows.{Grows}
use Rattle.tup_partial.specs.Near.{IsIn}
use Rattle.tup_partial.proofs.Naming.{OneOf}
use Rattle.tup_partial.proofs.near.add_numbers.Given as goal

abbrev pub invariant-loop-number : goal.invariant-loop-number
invariant-loop-number l = Grows (OneOf (λ (m n : ℕ). n ≡ m) (take l.number-index l.numbers)) (IsIn l.fn.found) (IsIn l.found)
