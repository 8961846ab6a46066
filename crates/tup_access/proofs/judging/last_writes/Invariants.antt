use Rattle.std.proofs.Common.{take}
use Rattle.tup_access.specs.Written.{AreAllOwn}
use Rattle.tup_access.proofs.judging.last_writes.Given as goal

abbrev pub invariant-loop-text : goal.invariant-loop-text
invariant-loop-text l = AreAllOwn l.rule (take l.text-index l.writes) l.last
