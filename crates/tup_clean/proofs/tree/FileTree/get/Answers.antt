use Rattle.std.proofs.Common.{◌∙◌, ap}
use Rattle.std.specs.FinMap as finite
use Rattle.tup_clean.proofs.Sorted.{get-from_entries}
use Rattle.tup_clean.proofs.tree.FileTree.get.Goals as goal

pub returns : goal.returns
returns c =
    c.get.ensures.value
    ∙ get-from_entries c.args.path.now c.self.inside.files.entries c.self.invariant
    ∙ ap (λ tree. finite.get tree c.args.path.now) c.self.view_is
