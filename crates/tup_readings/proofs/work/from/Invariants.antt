use Rattle.std.proofs.Common.{◌≡◌, drop}
use Rattle.tup_readings.specs.State.{from_first}
use Rattle.tup_readings.proofs.Lines.{from_here}
use Rattle.tup_readings.proofs.work.from.Given as goal

abbrev pub invariant-loop-path : goal.invariant-loop-path
invariant-loop-path l = from_here l.found l.first (drop l.path-index l.paths) ≡ from_first l.first l.paths
