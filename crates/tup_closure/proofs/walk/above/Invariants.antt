use Rattle.std.specs.Prelude.{◌+◌, ◌-◌, Contains, length}
use Rattle.tup_closure.specs.Walk.{IsCounted, IsWalk}
use Rattle.tup_closure.proofs.walk.above.Given as goal

abbrev pub invariant-rules : goal.invariant-rules
invariant-rules g l = record {
  walk : IsWalk l.graph (Contains l.roots) l.walk;
  counted : IsCounted l.graph (Contains l.roots) l.fn.steps l.walk l.steps;
}

abbrev pub decreases-rules : goal.decreases-rules
decreases-rules g l = (length l.graph.rules - length l.walk.reached.keys) + length l.walk.waiting.items
