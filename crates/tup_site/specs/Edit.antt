-- Files given as a list, the place of a file among them, and one file set or taken away. Own.
-- An edit is durable at once, and so is that no file is above or below the one that is set. What a crash may leave
-- right after it is the same either way, as it leaves a tree. But a later put could otherwise change two paths of
-- what a crash may leave.
use Rattle.std.specs.Prelude.{◌≡◌, ◌≢◌, List, [], Option, None, Some, IsSome}
use Rattle.std.proofs.Props.{props}
use Rattle.std.specs.Coded.{Coded-set, coded_ℕ, coded_list, coded_option}
use Rattle.std.specs.FinMap as finite
use Rattle.std.specs.List.{AllPairs}
use Rattle.std.specs.Map.{keys_of}
use Rattle.tup_path.specs.Name.{Names, Content, IsPath}
use Rattle.tup_path.specs.Tree.{Tree, IsTree, IsBelow, tree_of_files}
use Rattle.tup_site.specs.Cause.{IsPlace}

-- these files make a tree: no path stands twice, and each is where a file may be
pub record AreATree (files : List (Names × Content)) : Type 0 where
  pub once : AllPairs (λ a b. a ≢ b) (keys_of files)
  pub tree : IsTree (tree_of_files files)

-- that a tree is one holds in one way only
pub IsTree-prop : (tree : Tree) → IsProp (IsTree tree)
IsTree-prop tree = let set = Coded-set (coded_option (coded_list coded_ℕ)) in hlevel (props, set)

-- no file stands where a folder above the path has to be
abbrev pub NoneAbove : Tree → Names → Type 0
NoneAbove tree path = (file : Names) → IsSome (finite.get tree file) → IsBelow file path → ⊥

-- the path isn't a folder: no file is below it
abbrev pub NoneBelow : Tree → Names → Type 0
NoneBelow tree path = (file : Names) → IsSome (finite.get tree file) → IsBelow path file → ⊥

-- a file may stand here: it is no top, and no folder
pub record Stands (tree : Tree) (path : Names) : Type 0 where
  pub visible : IsPath path
  pub not_top : path ≢ []
  pub alone : NoneBelow tree path

-- a file may be added: none is at the path, and one may be
pub record MayAdd (tree : Tree) (path : Names) : Type 0 where
  pub none : finite.get tree path ≡ None
  pub place : IsPlace tree path

-- the tree with a file set, or taken away
abbrev pub edited : Tree → Names → Option Content → Tree
edited tree path None = finite.remove tree path
edited tree path (Some content) = finite.insert tree path content
