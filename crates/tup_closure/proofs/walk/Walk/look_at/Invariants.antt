use Rattle.std.proofs.Common.{take}
use Rattle.std.specs.Prelude.{◌≡◌, ◌+◌, Contains}
use Rattle.tup_closure.specs.Walk.{GoesTo}
use Rattle.tup_closure.proofs.walk.Walk.look_at.Given as goal

abbrev pub invariant-loop-number : goal.invariant-loop-number
invariant-loop-number g l = record {
  goes : GoesTo (Contains (take l.number-index l.numbers)) l.fn.self l.self;
  ticked : l.steps ≡ l.fn.steps + l.number-index;
}
