use Rattle.std.proofs.Common.{◌≢◌}
use Rattle.tup_link.specs.declared.walk.State.TheVariants.{New}
use Rattle.tup_link.specs.Walk.{state, GoesOn, steps_left}
use Rattle.tup_link.proofs.walk.Walk.go.Given as goal

abbrev pub invariant-walk : goal.invariant-walk
invariant-walk l = record {
  on : GoesOn l.graph l.fn.self l.self;
  met : state l.self l.from ≢ New;
}

abbrev pub decreases-walk : goal.decreases-walk
decreases-walk l = steps_left l.graph l.self
