use Rattle.std.proofs.Common.{◌∙◌, ap, sym}
use Rattle.std.specs.FinMap as finite
use Rattle.tup_clean.proofs.Sorted.{with_files-append}
use Rattle.tup_clean.proofs.tree.FileTree.put_all.Goals as goal

pub loop-path-preserved : goal.loop-path-preserved
loop-path-preserved c =
    c.in_ok-put.ensures
    ∙ ap (λ tree. finite.insert tree c.in-Some.path c.in-Some.content) c.loop-path.invariant
    ∙ sym (with_files-append c.args.self.now c.loop-path.yielded (c.in-Some.path, c.in-Some.content))
