use Rattle.std.proofs.Common.{◌≡◌, ◌≢◌, take}
use Rattle.std.specs.List.{AllPairs}
use Rattle.std.specs.Map.{keys_of}
use Rattle.tup_path.specs.Tree.{IsTree, tree_of_files}
use Rattle.tup_site.proofs.first.tree_of.Given as goal

abbrev pub invariant-loop-path : goal.invariant-loop-path
invariant-loop-path l = record {
  once : AllPairs (λ a b. a ≢ b) (keys_of (take l.path-index l.list));
  same : tree_of_files l.files.entries ≡ tree_of_files (take l.path-index l.list);
  tree : IsTree (tree_of_files l.files.entries);
}
