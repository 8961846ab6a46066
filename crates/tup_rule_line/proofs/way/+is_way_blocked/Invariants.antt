use Rattle.std.proofs.Common.{length}
use Rattle.tup_rule_line.proofs.way.+is_way_blocked.Given as goal

abbrev pub decreases-is_way_blocked : goal.decreases-is_way_blocked
decreases-is_way_blocked g l = length l.path.now
