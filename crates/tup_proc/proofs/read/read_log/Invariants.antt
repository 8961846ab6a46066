use Rattle.std.proofs.Common.{◌≡◌, ◌++◌, All, length}
use Rattle.tup_proc.specs.Log.{spelling, IsStep}
use Rattle.tup_proc.proofs.read.read_log.Given as goal

abbrev pub invariant-lines : goal.invariant-lines
invariant-lines l = (l.bytes ≡ spelling l.lines ++ l.rest) × All IsStep l.lines

abbrev pub decreases-lines : goal.decreases-lines
decreases-lines l = length l.rest
