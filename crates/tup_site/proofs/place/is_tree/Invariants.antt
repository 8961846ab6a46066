use Rattle.std.proofs.Common.{◌≡◌, List, ◌++◌}
use Rattle.std.specs.List.{All}
use Rattle.tup_path.specs.Name.{Names}
use Rattle.tup_path.specs.Tree.{tree_of_files}
use Rattle.tup_site.specs.Edit.{Stands}
use Rattle.tup_site.proofs.place.is_tree.Given as goal

-- those so far stand, and with those that are left they are all
abbrev pub invariant-loop-path : goal.invariant-loop-path
invariant-loop-path l = (before : List Names) × (before ++ l.path-iterator ≡ l.initial.path-iterator) × All (Stands (tree_of_files l.files.entries)) before
