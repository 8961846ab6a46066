-- The folders in which folders stand (own).
use Rattle.std.specs.Prelude.{◌≡◌, List, ℕ, [], ◌∷◌, ◌++◌, Contains}
use Rattle.std.specs.BTreeSet.{BTreeSet}
use Rattle.tup_path.specs.Name.{Names}
use Rattle.tup_path.specs.Order.{by_names}
use Rattle.tup_scan_diff.specs.Sets.{Has}

-- a path stands in a folder, under some name
abbrev pub StandsIn : Names → Names → Type 0
StandsIn dir path = (name : List ℕ) × (path ≡ dir ++ name ∷ [])

-- each folder in which one of some folders stands is among these
pub record AreParents (folders : List Names) (parents : BTreeSet Names) : Type 0 where
  pub all : (dir folder : Names) → Contains folders folder → StandsIn dir folder → Has by_names parents dir
