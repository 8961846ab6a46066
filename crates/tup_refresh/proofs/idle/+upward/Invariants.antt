use Rattle.std.proofs.Common.{◌*◌, ◌+◌, length}
use Rattle.tup_refresh.proofs.idle.+upward.Given as goal

abbrev pub decreases-is_above_back : goal.decreases-is_above_back
decreases-is_above_back l = 2 * length l.path.now

abbrev pub decreases-is_home_back : goal.decreases-is_home_back
decreases-is_home_back l = 2 * length l.dir.now + 1
