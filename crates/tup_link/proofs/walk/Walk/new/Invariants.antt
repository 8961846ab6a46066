use Rattle.std.proofs.Common.{◌≡◌, [], replicate}
use Rattle.tup_link.specs.declared.walk.State.TheVariants.{New}
use Rattle.tup_link.proofs.walk.Walk.new.Given as goal

abbrev pub invariant-loop : goal.invariant-loop
invariant-loop l = record {
  states : l.walk.states.items ≡ replicate l.counter New;
  passed : l.walk.passed.items ≡ replicate l.counter 0;
  way : l.walk.way.items ≡ [];
}
