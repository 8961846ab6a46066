use Rattle.std.proofs.Common.{take}
use Rattle.tup_closure.specs.Grows.{Grows}
use Rattle.tup_partial.specs.Near.{IsIn, NamesOutputOf}
use Rattle.tup_partial.proofs.near.namers.Given as goal

abbrev pub invariant-loop-number : goal.invariant-loop-number
invariant-loop-number l = Grows (NamesOutputOf l.graph (take l.number-index l.numbers)) (λ _. ⊥) (IsIn l.found)
