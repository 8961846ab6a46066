use Rattle.std.specs.Prelude.{length}
use Rattle.tup_scan_diff.proofs.homes.+home_of.Given as goal

abbrev pub decreases-home_of : goal.decreases-home_of
decreases-home_of l = length l.dir
