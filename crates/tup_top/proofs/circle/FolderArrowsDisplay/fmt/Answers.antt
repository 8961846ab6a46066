use Rattle.std.proofs.Common.{sym, arith, rules}
use Rattle.std.proofs.Output.{has_written_append, has_written_of_eq}
use Rattle.tup_top.specs.Lines.{folder_arrow}
use Rattle.tup_top.proofs.Told.{told_one_more}
use Rattle.tup_top.proofs.circle.FolderArrowsDisplay.fmt.Goals as goal

pub loop-folder-preserved : goal.loop-folder-preserved
loop-folder-preserved g c =
    let more = told_one_more folder_arrow c.args.self.now.0.now c.loop-folder.folder-index c.folder-item.result (omega arith) (sym c.folder-item.is) in
    λ plain. has_written_of_eq _ _ _ _ _ more (has_written_append _ _ _ _ _ _ (c.loop-folder.invariant plain) (search rules))
