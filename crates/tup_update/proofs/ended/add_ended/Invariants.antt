use Rattle.std.proofs.Common.{◌≡◌, ◌++◌, drop}
use Rattle.tup_update.specs.Ended.{ends, ends_from, told_ends}
use Rattle.tup_update.proofs.ended.add_ended.Given as goal

abbrev pub invariant-loop-event : goal.invariant-loop-event
invariant-loop-event l = l.ended ++ told_ends l.rules (ends_from l.claimed (drop l.event-index l.history)) ≡ l.fn.ended ++ told_ends l.rules (ends l.history)
