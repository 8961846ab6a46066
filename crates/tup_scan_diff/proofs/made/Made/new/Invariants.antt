use Rattle.std.proofs.Common.{map}
use Rattle.std.specs.Map.Iter.{deref_pair}
use Rattle.tup_scan_diff.proofs.Making.{AreMadeOf}
use Rattle.tup_scan_diff.proofs.made.Made.new.Given as goal

abbrev pub invariant-loop-dir : goal.invariant-loop-dir
invariant-loop-dir l = AreMadeOf (map deref_pair l.yielded) l.made
