use Rattle.std.proofs.Common.{take}
use Rattle.tup_readings.specs.Done.{AddsPaths}
use Rattle.tup_readings.proofs.done.add_paths.Given as goal

abbrev pub invariant-loop-path : goal.invariant-loop-path
invariant-loop-path l = AddsPaths (take l.path-index l.paths) l.fn.set l.set
