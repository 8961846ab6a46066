use Rattle.std.proofs.Common.{map}
use Rattle.std.specs.Map.Iter.{deref}
use Rattle.tup_path.specs.Order.{by_names}
use Rattle.tup_scan_diff.specs.Sets.{GrowsBy}
use Rattle.tup_scan_diff.specs.Stale.{IsUnreadIn}
use Rattle.tup_scan_diff.proofs.present.Present.add_unread.Given as goal

abbrev pub invariant-loop-dir : goal.invariant-loop-dir
invariant-loop-dir l = GrowsBy by_names (IsUnreadIn l.self (map deref l.yielded)) l.fn.dirs l.dirs
