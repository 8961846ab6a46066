use Rattle.std.proofs.Common.{map}
use Rattle.std.specs.Map.Iter.{deref}
use Rattle.tup_path.specs.Order.{by_names}
use Rattle.tup_scan_diff.specs.Sets.{GrowsBy}
use Rattle.tup_scan_diff.specs.Turned.{IsLacking}
use Rattle.tup_scan_diff.proofs.turned.add_lacking.Given as goal

abbrev pub invariant-loop-path : goal.invariant-loop-path
invariant-loop-path l = GrowsBy by_names (IsLacking l.other (map deref l.yielded)) l.fn.paths l.paths
