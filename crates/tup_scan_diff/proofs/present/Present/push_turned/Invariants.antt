use Rattle.std.proofs.Common.{map}
use Rattle.std.specs.Map.Iter.{deref}
use Rattle.tup_scan_diff.specs.Touched.{AsksOneOf, FindsRoots}
use Rattle.tup_scan_diff.proofs.present.Present.push_turned.Given as goal

abbrev pub invariant-loop-path : goal.invariant-loop-path
invariant-loop-path l = FindsRoots l.self (AsksOneOf l.graph (map deref l.yielded)) l.fn.roots l.roots
