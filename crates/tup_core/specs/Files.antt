-- The stamps of files as the code of a core keeps them (own).
-- A core keeps no list of files: those at its opening are its caller's, who looks up there what the core is asked for. Beside them
-- it keeps the stamps that came since.
use Rattle.std.specs.Prelude.{◌≡◌, ℕ, true, Bool, List, map, Option, Some, slice_get, is_some}
use Rattle.std.specs.BTreeMap.{get}
use Rattle.std.specs.FinMap as finite
use Rattle.std.specs.Option.{option_flatten, option_or}
use Rattle.tup_path.specs.Name.{Names}
use Rattle.tup_path.specs.Order.{by_names}
use Rattle.tup_stamp.specs.declared.Stamp.{Stamp}
use Rattle.tup_rule.specs.declared.rule.Rule.{Rule}
use Rattle.tup_rule.specs.Rule.{writes}
use Rattle.tup_core.specs.declared.files.FileStamps.{FileStamps}

-- the stamp that a path got since the opening, if it got one
abbrev pub stamp_since : FileStamps → Names → Option Stamp
stamp_since files path = option_flatten (get by_names files.beside path)

-- the stamp of a path that had this one at the opening
abbrev pub stamp_with : FileStamps → Names → Option Stamp → Option Stamp
stamp_with files path seen = option_or (stamp_since files path) seen

-- the stamp of a path
abbrev pub stamp_in : FileStamps → Names → Option Stamp
stamp_in files path = stamp_with files path (finite.get files.first.value path)

-- a path has its stamp where it is said to have had this one at the opening
abbrev pub IsSeenAt : FileStamps → Names → Option Stamp → Type 0
IsSeenAt files path seen = stamp_with files path seen ≡ stamp_in files path

-- whether a path may get a stamp without a new entry
abbrev pub has_room : FileStamps → Names → Bool
has_room files path = is_some (get by_names files.beside path)

-- every file keeps its stamp, and its room
pub record AreKept (old new : FileStamps) : Type 0 where
  pub first : new.first ≡ old.first
  pub stamps : (path : Names) → stamp_in new path ≡ stamp_in old path
  pub room : (path : Names) → has_room old path ≡ true → has_room new path ≡ true

-- there is room for each output of the rules that pass a test
abbrev pub HasRoomFor : List Rule → (ℕ → Bool) → FileStamps → Type 0
HasRoomFor rules test files = (at : ℕ) (rule : Rule) (path : Names) → test at ≡ true → slice_get rules at ≡ Some rule → writes rule path ≡ true → has_room files path ≡ true

-- the paths of files with stamps
abbrev pub paths_in : List (Names × Stamp) → List Names
paths_in files = map (λ (file : Names × Stamp). file.0) files
