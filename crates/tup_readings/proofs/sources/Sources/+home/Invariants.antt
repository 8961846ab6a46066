use Rattle.std.proofs.Common.{length}
use Rattle.tup_readings.proofs.sources.Sources.+home.Given as goal

abbrev pub decreases-home : goal.decreases-home
decreases-home l = length l.dir.now
