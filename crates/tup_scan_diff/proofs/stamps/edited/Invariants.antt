use Rattle.std.proofs.Common.{take}
use Rattle.tup_scan_diff.proofs.Overlaid.{IsEdited}
use Rattle.tup_scan_diff.proofs.stamps.edited.Given as goal

abbrev pub invariant-loop-path : goal.invariant-loop-path
invariant-loop-path l = IsEdited l.nodes.seen l.stamps (take l.path-index l.files) l.left
