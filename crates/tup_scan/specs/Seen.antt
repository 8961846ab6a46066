-- What a scan sees of a tree: the stamp of each file's content, and the content of tup.config (own).
use Rattle.std.specs.Prelude.{◌≡◌, ◌∷◌, [], List, All, IsSome, map, codes, option_map, Some}
use Rattle.std.specs.FinMap as finite
use Rattle.tup_path.specs.Name.{Names}
use Rattle.tup_path.specs.Tree.{Tree}
use Rattle.tup_stamp.specs.Stamp.{stamp}
use Rattle.tup_stamp.specs.declared.Stamp.{Stamp}
use Rattle.tup_scan.specs.declared.seen.Seen.{Seen}

-- the file of settings, at the top
abbrev pub config_path : Names
config_path = codes "tup.config" ∷ []

-- a path with the stamp of the file that stands there
abbrev pub IsStamped : Tree → Names × Stamp → Type 0
IsStamped tree file = option_map stamp (finite.get tree file.0) ≡ Some file.1

-- paths with the stamps of their files
abbrev pub AreStamped : Tree → List (Names × Stamp) → Type 0
AreStamped tree files = All (IsStamped tree) files

-- a tree as it is seen: each of its files once, in the order of paths
pub record IsSeen (tree : Tree) (seen : Seen) : Type 0 where
  pub paths : map (λ file. file.0) seen.files ≡ finite.keys tree
  pub stamps : AreStamped tree seen.files
  pub config : seen.config ≡ finite.get tree config_path

-- these are paths of files
abbrev pub AreFiles : Tree → List Names → Type 0
AreFiles tree paths = All (λ path. IsSome (finite.get tree path)) paths
