use Rattle.std.proofs.Common.{map}
use Rattle.std.specs.Map.Iter.{deref}
use Rattle.tup_scan_diff.specs.Parents.{AreParents}
use Rattle.tup_scan_diff.proofs.parents.parents_of.Given as goal

abbrev pub invariant-loop-folder : goal.invariant-loop-folder
invariant-loop-folder l = AreParents (map deref l.yielded) l.parents
