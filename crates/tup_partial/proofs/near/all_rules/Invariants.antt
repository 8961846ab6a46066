use Rattle.tup_partial.proofs.Places.{ArePlaces}
use Rattle.tup_partial.proofs.near.all_rules.Given as goal

abbrev pub invariant-loop-number : goal.invariant-loop-number
invariant-loop-number l = ArePlaces l.number l.numbers
