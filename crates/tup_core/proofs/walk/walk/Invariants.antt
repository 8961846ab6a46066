use Rattle.std.proofs.Common.{◌+◌, ◌-◌, length}
use Rattle.tup_core.specs.Walk.{downs, IsWalked}
use Rattle.tup_core.proofs.walk.walk.Given as goal

abbrev pub invariant-walk : goal.invariant-walk
invariant-walk l = IsWalked l.readers l.pending l.from l.found l.next l.seen

abbrev pub decreases-walk : goal.decreases-walk
decreases-walk l = downs l.seen + (length l.found - l.next)
