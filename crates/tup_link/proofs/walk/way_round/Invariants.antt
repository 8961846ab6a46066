use Rattle.std.proofs.Common.{◌≡◌, ℕ, ◌<◌, []}
use Rattle.tup_link.specs.declared.walk.State.TheVariants.{Done}
use Rattle.tup_link.specs.Walk.{state, IsWalk}
use Rattle.tup_link.proofs.walk.way_round.Given as goal

abbrev pub invariant-loop-from : goal.invariant-loop-from
invariant-loop-from l = record {
  walk : IsWalk l.graph l.walk;
  way : l.walk.way.items ≡ [];
  done : (at : ℕ) → at < l.from → state l.walk at ≡ Done;
}
