use Rattle.std.proofs.Common.{◌≡◌, ◌<◌, ℕ, None}
use Rattle.tup_core.specs.Machine.{entry}
use Rattle.tup_core.proofs.machine.Core.is_idle.Given as goal

abbrev pub invariant-loop-seat : goal.invariant-loop-seat
invariant-loop-seat l = (at : ℕ) → at < l.seat-index → entry l.self.seats.items at ≡ None
