use Rattle.std.proofs.Common.{map}
use Rattle.std.specs.Map.Iter.{deref_pair}
use Rattle.tup_scan_diff.specs.Touched.{FindsRoots}
use Rattle.tup_scan_diff.proofs.Looking.{HasEntry}
use Rattle.tup_scan_diff.proofs.present.Present.push_flagged.Given as goal

abbrev pub invariant-loop-number : goal.invariant-loop-number
invariant-loop-number l = FindsRoots l.self (HasEntry (map deref_pair l.yielded)) l.fn.roots l.roots
