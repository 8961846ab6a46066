use Rattle.std.proofs.Common.{◌≡◌, ◌∙◌, ap, sym, rules}
use Rattle.std.specs.FinMap as finite
use Rattle.tup_clean.proofs.Sorted.{entries-sorted}
use Rattle.tup_clean.proofs.tree.FileTree.into_files.Goals as goal

pub returns : goal.returns
returns c =
    let collected : c.from_vec.result ≡ c.self.inside.files.entries = search rules in
    collected ∙ sym (entries-sorted c.self.inside.files.entries c.self.invariant) ∙ ap finite.entries c.self.view_is
