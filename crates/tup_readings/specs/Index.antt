-- The folders of a project as an index has them.
use Rattle.std.specs.Prelude.{◌≡◌, ℕ, ◌||◌, if◌then◌else◌, List, [], ◌∷◌, ◌++◌, Option, Some, None, option_map}
use Rattle.std.specs.BTreeMap.{BTreeMap, get}
use Rattle.std.specs.BTreeSet.{BTreeSet, contains, insert_key}
use Rattle.tup_path.specs.Name.{Names}
use Rattle.tup_path.specs.Order.{by_bytes, by_names, same_path}
use Rattle.tup_rule.specs.Rule.{among}
use Rattle.tup_readings.specs.Sources.{is_below, folder_of, tupfile}

-- a path as its folder and its name; none for the top
abbrev pub IsParted : Names → Option (Names × List ℕ) → Type 0
IsParted path None = path ≡ []
IsParted path (Some parts) = path ≡ parts.0 ++ parts.1 ∷ []

-- a set of the folders in which a Tupfile is among some paths
abbrev pub AreTupfiles : List Names → BTreeSet Names → Type 0
AreTupfiles paths dirs = (dir : Names) → contains by_names dirs dir ≡ among (tupfile dir) paths

-- a set that has the folder of one path more, if it is a Tupfile
abbrev pub AddsTupfile : Names → BTreeSet Names → BTreeSet Names → Type 0
AddsTupfile path old new = (dir : Names) → contains by_names new dir ≡ (contains by_names old dir || same_path (tupfile dir) path)

-- folders with the names of the files in them
abbrev pub FolderMap : Type 0
FolderMap = BTreeMap Names (BTreeSet (List ℕ))

-- the names of a folder
abbrev pub names_of : FolderMap → Names → Option (List (List ℕ))
names_of folders dir = option_map (λ (set : BTreeSet (List ℕ)). set.keys) (get by_names folders dir)

-- a map of the folders of some paths
abbrev pub AreFolders : List Names → FolderMap → Type 0
AreFolders paths folders = (dir : Names) → names_of folders dir ≡ folder_of paths dir

-- a map that has one file more
abbrev pub AddsFile : Names → FolderMap → FolderMap → Type 0
AddsFile path old new = (paths : List Names) → AreFolders paths old → AreFolders (paths ++ path ∷ []) new

-- the names of a folder, none where it wasn't there
abbrev pub or_none : Option (List (List ℕ)) → List (List ℕ)
or_none (Some names) = names
or_none None = []

-- a map that has all folders above a path
abbrev pub AddsFolders : Names → FolderMap → FolderMap → Type 0
AddsFolders path old new = (dir : Names) → names_of new dir ≡ (if is_below dir path then Some (or_none (names_of old dir)) else names_of old dir)

-- the folders of some paths that have all folders above one path more
abbrev pub AddsAbove : Names → FolderMap → FolderMap → Type 0
AddsAbove path old new = (paths : List Names) → AreFolders paths old → AddsFolders path old new

-- a map that has one name more in a folder, which is there then
abbrev pub AddsName : Names → List ℕ → FolderMap → FolderMap → Type 0
AddsName dir name old new = (other : Names)
    → names_of new other ≡ (if same_path other dir then Some (insert_key by_bytes (or_none (names_of old other)) name) else names_of old other)
