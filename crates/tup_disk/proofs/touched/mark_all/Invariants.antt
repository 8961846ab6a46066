use Rattle.std.proofs.Common.{All, take, string_bytes}
use Rattle.tup_disk.specs.Marked.{IsMarked, StayMarked}
use Rattle.tup_disk.proofs.touched.mark_all.Given as goal

abbrev pub invariant-loop-folder : goal.invariant-loop-folder
invariant-loop-folder l = All (λ t. IsMarked l.marked (string_bytes t)) (take l.folder-index l.folders) × StayMarked l.fn.marked l.marked
