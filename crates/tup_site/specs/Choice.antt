-- What a choice leaves of a tree, and which choices leave a tree. Own.
-- A choice may name a path with the content that it has: what counts is the world that is left.
use Rattle.std.specs.Prelude.{Bool, true, not, ◌&&◌, List, [], ◌∷◌, Option, None, Some, IsTrue}
use Rattle.std.specs.List.{list_any}
use Rattle.tup_path.specs.Name.{Names, Content}
use Rattle.tup_path.specs.Order.{same_path}
use Rattle.tup_path.specs.Tree.{Tree, IsTree}
use Rattle.tup_site.specs.World.{World}
use Rattle.tup_site.specs.Edit.{edited}
use Rattle.tup_site.specs.declared.choice.Choice.{Choice}

-- paths with the files that they get
abbrev pub Changed : Type 0
Changed = List (Names × Option Content)

-- whether a path gets a file here, or loses it
abbrev pub names : Changed → Names → Bool
names files path = list_any (λ (file : Names × Option Content). same_path path file.0) files

-- whether no path stands twice
abbrev pub is_once : Changed → Bool
is_once [] = true
is_once (file ∷ files) = not (names files file.0) && is_once files

-- the tree with these files set or taken away, one after another
abbrev pub chosen : Tree → Changed → Tree
chosen tree [] = tree
chosen tree (file ∷ files) = chosen (edited tree file.0 file.1) files

-- the known contents with one more, where there is one
abbrev pub with_content : List Content → Option Content → List Content
with_content contents None = contents
with_content contents (Some content) = content ∷ contents

-- the known contents with those that these files get
abbrev pub known_after : List Content → Changed → List Content
known_after contents [] = contents
known_after contents (file ∷ files) = known_after (with_content contents file.1) files

-- no path is named twice, and what is left is a tree
pub record IsChoice (tree : Tree) (files : Changed) : Type 0 where
  pub once : IsTrue (is_once files)
  pub leaves : IsTree (chosen tree files)

-- the world that a choice leaves
abbrev pub chosen_world : Tree → Choice → World
chosen_world tree choice = record { tree = chosen tree choice.tree; store = choice.db }
