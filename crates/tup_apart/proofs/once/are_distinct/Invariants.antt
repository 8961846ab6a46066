use Rattle.std.proofs.Common.{take}
use Rattle.std.specs.List.{IsDistinct}
use Rattle.tup_path.specs.Order.{same_path}
use Rattle.tup_apart.proofs.Distinct.{HasPaths}
use Rattle.tup_apart.proofs.once.are_distinct.Given as goal

abbrev pub invariant-loop-path : goal.invariant-loop-path
invariant-loop-path l = record {
  has : HasPaths l.before (take l.path-index l.paths);
  once : IsDistinct same_path (take l.path-index l.paths);
}
