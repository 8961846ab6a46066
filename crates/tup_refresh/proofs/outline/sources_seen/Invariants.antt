use Rattle.std.proofs.Common.{◌≡◌, map}
use Rattle.std.specs.Map.Iter.{deref_pair}
use Rattle.tup_refresh.specs.Outline.{outline_of}
use Rattle.tup_refresh.proofs.outline.sources_seen.Given as goal

abbrev pub invariant-loop-path : goal.invariant-loop-path
invariant-loop-path l = record {
  files : l.files ≡ outline_of l.nodes l.top l.config (map deref_pair l.yielded);
  owners : l.owners ≡ l.nodes;
}
