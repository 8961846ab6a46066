use Rattle.std.proofs.Common.{◌∙◌, ap}
use Rattle.std.specs.FinMap as finite
use Rattle.tup_clean.proofs.Sorted.{IsSorted-insert_entry, from_sorted-insert_entry}
use Rattle.tup_clean.proofs.tree.FileTree.put.Goals as goal

pub invariant_of-self-2 : goal.invariant_of-self-2
invariant_of-self-2 c = rw c.in_ok-insert.ensures.entries (IsSorted-insert_entry c.args.path c.args.content c.self.inside.files.entries c.self.invariant)

pub returns : goal.returns
returns c =
    ap finite.from_sorted c.in_ok-insert.ensures.entries
    ∙ from_sorted-insert_entry c.args.path c.args.content c.self.inside.files.entries c.self.invariant
    ∙ ap (λ tree. finite.insert tree c.args.path c.args.content) c.self.view_is
