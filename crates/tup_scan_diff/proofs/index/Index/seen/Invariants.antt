use Rattle.std.proofs.Common.{◌≡◌, map}
use Rattle.std.specs.Map.Iter.{deref_pair}
use Rattle.tup_scan_diff.specs.Index.{HasLast, IsIndexOf, IsSourceAmong}
use Rattle.tup_scan_diff.proofs.index.Index.seen.Given as goal

abbrev pub invariant-loop-file : goal.invariant-loop-file
invariant-loop-file l = record {
  index : IsIndexOf (IsSourceAmong l.nodes (map deref_pair l.yielded)) l.index;
  owners : l.owners ≡ l.nodes;
  known : HasLast l.index;
}
