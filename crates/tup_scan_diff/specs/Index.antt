-- Paths by their folders (own).
use Rattle.std.specs.Prelude.{◌≡◌, ◌≢◌, ◌↔◌, Bool, true, false, Option, None, Some, List, ℕ, [], ◌∷◌, ◌++◌, Contains, IfSome, codes, map}
use Rattle.std.specs.BTreeSet.{BTreeSet}
use Rattle.tup_path.specs.Name.{Names}
use Rattle.tup_path.specs.Order.{by_names}
use Rattle.tup_path.specs.Tree.{IsBelow}
use Rattle.tup_stamp.specs.declared.Stamp.{Stamp}
use Rattle.tup_graph.specs.Answers.{tupfile}
use Rattle.tup_graph.specs.Graph.{GraphState, is_owned}
use Rattle.tup_closure.specs.Grows.{Grows}
use Rattle.tup_closure.specs.Lists.{IsListed, last_of}
use Rattle.tup_scan_diff.specs.Sets.{Has}
use Rattle.tup_scan_diff.specs.declared.index.Index.{Index}

-- a folder has a Tupfile in an index
abbrev pub HasTupfile : Index → Names → Type 0
HasTupfile index dir = Has by_names index.tupfiles dir

-- a folder has a file below it there
abbrev pub HasBelow : Index → Names → Type 0
HasBelow index dir = Has by_names index.folders dir

-- the folder of the file that was added last, if there is one, is among those that have a file below them
abbrev pub HasLast : Index → Type 0
HasLast index = IfSome (last_of index.names) (HasBelow index)

-- a path in the folder of the file that was added last, by its name there, which isn't that of a Tupfile
pub record IsBeside (index : Index) (path : Names) (name : List ℕ) : Type 0 where
  pub dir : Names
  pub last : last_of index.names ≡ Some dir
  pub parts : path ≡ dir ++ name ∷ []
  pub other : name ≢ codes "Tupfile"

-- an index of these files: the names of those in each folder, the folders that have a Tupfile, and those that have a file
-- below them
pub record IsIndexOf (IsFile : Names → Type 0) (index : Index) : Type 0 where
  pub names : (dir : Names) (name : List ℕ) → IsListed index.names (dir, name) ↔ IsFile (dir ++ name ∷ [])
  pub tupfiles : (dir : Names) → HasTupfile index dir ↔ IsFile (tupfile dir)
  pub folders : (dir : Names) → HasBelow index dir ↔ ((file : Names) × IsBelow dir file × IsFile file)

-- an index with one file more
pub record AddsFile (path : Names) (old new : Index) : Type 0 where
  pub names : Grows (λ (place : Names × List ℕ). path ≡ place.0 ++ place.1 ∷ []) (IsListed old.names) (IsListed new.names)
  pub tupfiles : Grows (λ dir. path ≡ tupfile dir) (HasTupfile old) (HasTupfile new)
  pub folders : Grows (λ dir. IsBelow dir path) (HasBelow old) (HasBelow new)

-- an index that has a file more unless it is owned
abbrev pub IsAddedIf : Bool → Names → Index → Index → Type 0
IsAddedIf true path old new = new ≡ old
IsAddedIf false path old new = AddsFile path old new

-- a path with this last name
abbrev pub IsLastOf : Names → List ℕ → Type 0
IsLastOf path name = (dir : Names) × (path ≡ dir ++ name ∷ [])

-- a path as its folder and its name there; none for the top
abbrev pub IsParted : Names → Option (Names × List ℕ) → Type 0
IsParted path None = path ≡ []
IsParted path (Some (dir, name)) = path ≡ dir ++ name ∷ []

-- with a folder come all folders above it
abbrev pub IsClosed : BTreeSet Names → Type 0
IsClosed folders = (dir above : Names) → Has by_names folders dir → IsBelow above dir → Has by_names folders above

-- one of some files that isn't owned
abbrev pub IsSourceAmong : GraphState → List (Names × Stamp) → Names → Type 0
IsSourceAmong g files path = Contains (map (λ (file : Names × Stamp). file.0) files) path × (is_owned g path ≡ false)
