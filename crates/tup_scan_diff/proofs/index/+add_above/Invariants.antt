use Rattle.std.specs.Prelude.{length}
use Rattle.tup_scan_diff.proofs.index.+add_above.Given as goal

abbrev pub decreases-add_above : goal.decreases-add_above
decreases-add_above l = length l.path.now
