use Rattle.std.proofs.Common.{◌≡◌, map}
use Rattle.std.specs.Map.Iter.{deref}
use Rattle.tup_link.specs.Known.{Knows}
use Rattle.tup_link.specs.Linked.{with_paths}
use Rattle.tup_link.proofs.order.Distinct.add_all.Given as goal

abbrev pub invariant-loop-path : goal.invariant-loop-path
invariant-loop-path l = record {
  paths : l.self.paths ≡ with_paths l.fn.self.paths (map deref l.yielded);
  known : Knows l.self.known l.self.paths;
}
