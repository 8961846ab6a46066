use Rattle.std.proofs.Common.{◌≡◌}
use Rattle.tup_db.proofs.epoch.cut.Given as goal

abbrev pub invariant-loop-gate : goal.invariant-loop-gate
invariant-loop-gate g l = l.store.own ≡ l.fn.store.own
