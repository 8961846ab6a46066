use Rattle.std.proofs.Common.{◌≡◌, length}
use Rattle.std.specs.Prelude.{All}
use Rattle.tup_lock.proofs.open.snapshots.Given as goal

abbrev pub invariant-loop : goal.invariant-loop
invariant-loop g l = (length l.made.items ≡ l.counter) × All (λ one. one.value ≡ l.value) l.made.items
