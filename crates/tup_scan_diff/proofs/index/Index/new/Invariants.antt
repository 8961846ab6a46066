use Rattle.std.proofs.Common.{◌≡◌, take}
use Rattle.tup_scan_diff.specs.Index.{HasLast, IsIndexOf, IsSourceAmong}
use Rattle.tup_scan_diff.proofs.index.Index.new.Given as goal

abbrev pub invariant-loop-path : goal.invariant-loop-path
invariant-loop-path l = record {
  index : IsIndexOf (IsSourceAmong l.nodes (take l.path-index l.files)) l.index;
  owners : l.owners ≡ l.nodes;
  known : HasLast l.index;
}
