use Rattle.tup_core.proofs.WalkLaws.{AreRaised}
use Rattle.tup_core.proofs.waiting.raise_all.Given as goal

abbrev pub invariant-loop-at : goal.invariant-loop-at
invariant-loop-at l = AreRaised l.readers l.reached l.at l.entries
