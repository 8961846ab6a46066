use Rattle.std.proofs.Common.{take}
use Rattle.std.specs.Prelude.{◌≡◌, ◌+◌}
use Rattle.tup_closure.specs.Readers.{HasAskedOneOf}
use Rattle.tup_closure.specs.Steps.{looks_at}
use Rattle.tup_closure.specs.Walk.{GoesTo}
use Rattle.tup_closure.proofs.walk.Walk.reach_readers.Given as goal

abbrev pub invariant-loop-path : goal.invariant-loop-path
invariant-loop-path g l = record {
  goes : GoesTo (HasAskedOneOf l.graph (take l.path-index l.paths)) l.fn.self l.self;
  ticked : l.steps ≡ l.fn.steps + looks_at l.graph (take l.path-index l.paths);
}
