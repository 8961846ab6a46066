use Rattle.std.proofs.Common.{take}
use Rattle.tup_path.specs.Order.{by_bytes}
use Rattle.tup_scan_diff.specs.Sets.{GrowsBy}
use Rattle.tup_scan_diff.specs.Names.{IsIn}
use Rattle.tup_scan_diff.proofs.names.add_paths.Given as goal

abbrev pub invariant-loop-path : goal.invariant-loop-path
invariant-loop-path l = GrowsBy by_bytes (IsIn (take l.path-index l.paths) l.dir) l.fn.names l.names
