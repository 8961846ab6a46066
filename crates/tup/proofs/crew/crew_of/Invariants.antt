use Rattle.std.proofs.Common.{◌≡◌, ◌+◌, length}
use Rattle.tup.proofs.crew.crew_of.Given as goal

abbrev pub invariant-loop-runner : goal.invariant-loop-runner
invariant-loop-runner g l = length l.crew.items + length l.runners.items ≡ length l.fn.runners.items

abbrev pub decreases-loop-runner : goal.decreases-loop-runner
decreases-loop-runner g l = length l.runners.items
