use Rattle.std.proofs.Common.{◌≡◌, None, replicate}
use Rattle.tup_core.proofs.start.nothing.Given as goal

abbrev pub invariant-loop : goal.invariant-loop
invariant-loop g l = l.entries.items ≡ replicate l.counter None
