use Rattle.tup_clean.proofs.Sorted.{from_sorted-nil}
use Rattle.tup_clean.proofs.tree.FileTree.empty.Goals as goal

pub returns : goal.returns
returns c = from_sorted-nil _ c.new.ensures.empty
