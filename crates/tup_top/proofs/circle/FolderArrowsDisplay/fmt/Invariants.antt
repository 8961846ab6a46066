use Rattle.std.proofs.Common.{take}
use Rattle.std.specs.Fmt.{HasWritten, IsPlainFormatter}
use Rattle.std.specs.List.{flat_map}
use Rattle.tup_top.specs.Lines.{folder_arrow}
use Rattle.tup_top.proofs.circle.FolderArrowsDisplay.fmt.Given as goal

abbrev pub invariant-loop-folder : goal.invariant-loop-folder
invariant-loop-folder g l = IsPlainFormatter l.fn.f → HasWritten g.W.Write.write_str_gives l.fn.f (flat_map folder_arrow (take l.folder-index l.fn.self.0.now)) l.f
