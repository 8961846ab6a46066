use Rattle.tup_rule.proofs.Making.{HasMakersFrom}
use Rattle.tup_rule.proofs.by_path.makers.Given as goal

abbrev pub invariant-loop-at : goal.invariant-loop-at
invariant-loop-at l = HasMakersFrom l.rules l.at l.makers
