use Rattle.tup_readings.specs.State.{IsWork, steps_left}
use Rattle.tup_readings.proofs.folders.all_read.Given as goal

abbrev pub invariant-loop-work : goal.invariant-loop-work
invariant-loop-work l = IsWork l.sources l.settings l.work

abbrev pub decreases-loop-work : goal.decreases-loop-work
decreases-loop-work l = steps_left l.work
