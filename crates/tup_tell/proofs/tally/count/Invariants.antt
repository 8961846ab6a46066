use Rattle.std.proofs.Common.{◌≡◌, take}
use Rattle.std.specs.Prelude.{count_by}
use Rattle.tup_tell.specs.Told.{is_of}
use Rattle.tup_tell.proofs.tally.count.Given as goal

abbrev pub invariant-loop-event : goal.invariant-loop-event
invariant-loop-event l = l.found ≡ count_by (is_of l.kind) (take l.event-index l.events)
