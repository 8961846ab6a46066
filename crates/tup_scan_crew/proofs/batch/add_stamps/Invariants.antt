use Rattle.std.proofs.Common.{◌≡◌, ◌++◌, map}
use Rattle.std.specs.Vec.Iter.{into_iter_items}
use Rattle.tup_scan_crew.specs.Batch.{with_stamp}
use Rattle.tup_scan_crew.proofs.batch.add_stamps.Given as goal

abbrev pub invariant-loop-file : goal.invariant-loop-file
invariant-loop-file l = l.stamps ++ map with_stamp (into_iter_items l.file-iterator) ≡ l.fn.stamps ++ map with_stamp l.fn.files.items
