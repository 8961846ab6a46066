use Rattle.std.proofs.Common.{◌∙◌, ap}
use Rattle.tup_clean.specs.Clean.{with_files}
use Rattle.tup_clean.proofs.Sorted.{copies, with_files-sorted}
use Rattle.tup_clean.proofs.tree.FileTree.new.Goals as goal

pub returns : goal.returns
returns c =
    let copied = copies c.args.files.now c.in_ok-clone.field-0 c.in_ok-clone.ensures.cases.0 in
    c.in_ok-put_all.ensures
    ∙ ap (λ tree. with_files tree c.in_ok-clone.field-0) c.empty-tree.ensures
    ∙ ap (with_files _) copied
    ∙ with_files-sorted c.args.files.now c.requires
