use Rattle.std.proofs.Common.{◌≡◌, take}
use Rattle.tup_link.specs.Circle.{names_at}
use Rattle.tup_link.proofs.circle.names.Given as goal

abbrev pub invariant-loop-at : goal.invariant-loop-at
invariant-loop-at l = l.names ≡ names_at l.rules (take l.at-index l.places)
