-- The keys of a tree are the paths of its files.
use Rattle.std.proofs.Common.{◌∙◌, slice_index_or}
use Rattle.std.proofs.lemmas.List.Folds.{list_any_at}
use Rattle.std.specs.Cmp.{eq_by_cmp_equiv}
use Rattle.std.specs.FinMap as finite
use Rattle.std.specs.Ordering.{eq_by_cmp}
use Rattle.tup_path.specs.Tree.{Tree}
use Rattle.tup_path.specs.Order.{by_names, by_names-total}
use Rattle.tup_scan.specs.Seen.{AreFiles}

pub keys_are_files : (tree : Tree) → AreFiles tree (finite.keys tree)
keys_are_files tree = λ k d within.
    let path = slice_index_or (finite.keys tree) k d in
    finite.contains_key-keys tree path ∙ list_any_at (eq_by_cmp by_names path) (finite.keys tree) k d within ((eq_by_cmp_equiv by_names-total).refl path)
