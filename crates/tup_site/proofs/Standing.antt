-- Files of which none is at the top or below another are a tree.
use Rattle.std.proofs.Common.{◌≡◌, true, List, [], ◌∷◌, ◌++◌, Option, None, Some, IsSome, is_some, refl, sym, ap, ◌∙◌}
use Rattle.std.specs.Ordering.{eq_by_cmp}
use Rattle.std.specs.BTreeMap.{BTreeMap, IsOrdered}
use Rattle.std.specs.List.{All, list_any}
use Rattle.std.specs.Map.{keys_of}
use Rattle.std.specs.FinMap as finite
use Rattle.std.proofs.lemmas.Bool.{both_ways, or_left, or_right}
use Rattle.std.proofs.lemmas.List.Elements.{All-weaker}
use Rattle.std.proofs.lemmas.List.Folds.{list_any-append}
use Rattle.tup_path.specs.Name.{Names, Content, IsPath}
use Rattle.tup_path.specs.Order.{by_names, by_names-total}
use Rattle.tup_path.specs.Tree.{Tree, IsTree, tree_of_files}
use Rattle.tup_path.proofs.Same.{by_names-decides}
use Rattle.tup_site.specs.Edit.{Stands}
use Rattle.tup_path.proofs.Maps.{keys-of_sorted}
use Rattle.tup_site.proofs.Trees.{some-from_all_keys}

no_file : (found : Option Content) → (IsSome found → ⊥) → found ≡ None
no_file None apart = refl
no_file (Some content) apart = absurd (apart refl)

pub tree_from_all : (tree : Tree) → All (Stands tree) (finite.keys tree) → IsTree tree
tree_from_all tree all = record {
  paths = All-weaker (Stands tree) IsPath (λ path stands. stands.visible) (finite.keys tree) all;
  no_top = no_file (finite.get tree []) (λ there. (some-from_all_keys (Stands tree) tree all [] there).not_top refl);
  no_file_above = λ folder path fs ps below. (some-from_all_keys (Stands tree) tree all folder fs).alone path ps below;
}

pub stands_in_tree : (tree : Tree) (path : Names) → IsTree tree → IsSome (finite.get tree path) → Stands tree path
stands_in_tree tree path is there = record {
  visible = some-from_all_keys IsPath tree is.paths path there;
  not_top = λ e. let none = ap is_some (ap (finite.get tree) e ∙ is.no_top) in both_ways true (sym there ∙ none) refl;
  alone = λ file fs below. is.no_file_above path file there fs below;
}

-- a path that is listed is there
pub key_is_there : (m : BTreeMap Names Content) (before behind : List Names) (path : Names) → before ++ path ∷ behind ≡ keys_of m.entries → IsOrdered by_names m → IsSome (finite.get (tree_of_files m.entries) path)
key_is_there m before behind path split ordered =
    finite.contains_key-keys (tree_of_files m.entries) path
    ∙ ap (list_any (eq_by_cmp by_names path)) (keys-of_sorted by_names-total m.entries ordered ∙ sym split)
    ∙ list_any-append (eq_by_cmp by_names path) before (path ∷ behind)
    ∙ or_right _ _ (or_left _ _ ((by_names-decides path path).1 refl))
