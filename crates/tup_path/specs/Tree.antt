-- The file tree: a finite map from the paths of files to their contents.
use Rattle.std.specs.Prelude.{◌≡◌, ◌≢◌, ◌++◌, List, [], None, IsSome, All}
use Rattle.std.specs.FinMap as finite
use Rattle.tup_path.specs.Name.{Names, Content, IsPath}
use Rattle.tup_path.specs.Order.{by_names}

-- equal trees are equal values
abbrev pub Tree : Type 0
Tree = finite.FinMap by_names Content

-- the map that a list of files makes; where a path stands twice, its first content stays
abbrev pub tree_of_files : List (Names × Content) → Tree
tree_of_files files = finite.from_entries files

-- a path lies below another: it goes on where the other ends
abbrev pub IsBelow : Names → Names → Type 0
IsBelow folder path = (rest : Names) × (rest ≢ []) × (path ≡ folder ++ rest)

-- what a file tree is beside a map: paths as they may be, and no file where a folder has to be
pub record IsTree (tree : Tree) : Type 0 where
  pub paths : All IsPath (finite.keys tree)
  pub no_top : finite.get tree [] ≡ None
  pub no_file_above : (folder path : Names) → IsSome (finite.get tree folder) → IsSome (finite.get tree path) → IsBelow folder path → ⊥
