-- The folders of a project while they are read.
use Rattle.std.specs.Prelude.{◌≡◌, ◌⊎◌, ℕ, ◌+◌, ◌*◌, ◌<◌, ◌≤◌, false, ◌||◌, ◌&&◌, not, if◌then◌else◌, List, [], ◌∷◌, ◌++◌, length, Option, Some, None, is_some, Result, Ok, Err, IsTrue}
use Rattle.std.specs.BTreeSet.{contains, IsLowerBound}
use Rattle.std.specs.FinMap as finite
use Rattle.std.specs.List.{IsDistinct}
use Rattle.tup_path.specs.Name.{Names}
use Rattle.tup_path.specs.Order.{by_names, same_path}
use Rattle.tup_path.specs.Tree.{Tree}
use Rattle.tup_rule.specs.Rule.{among}
use Rattle.tup_rule.specs.declared.question.Reading.{Reading}
use Rattle.tup_vars.specs.Table.{Entries}
use Rattle.tup_readings.specs.declared.asked.Stop.{Stop}
use Rattle.tup_readings.specs.declared.asked.Stop.TheVariants.{Awaits}
use Rattle.tup_readings.specs.declared.fault.FoldersFault.{FoldersFault}
use Rattle.tup_readings.specs.declared.fault.FoldersFault.TheVariants.{Parse, Circular, Memory}
use Rattle.tup_readings.specs.declared.folders.Came.{Came}
use Rattle.tup_readings.specs.declared.folders.Came.TheVariants.{Read, Waits}
use Rattle.tup_readings.specs.declared.work.Work.{Work}
use Rattle.tup_readings.specs.Sources.{has_tupfile}
use Rattle.tup_readings.specs.Answers.{Readings}
use Rattle.tup_readings.specs.Readings.{AreUnderWay, IsReadingOver, IsFaultOver, WaitsFor}

-- how many steps are left at most: two for a folder that wasn't begun, one for one under way
abbrev pub steps_left : Work → ℕ
steps_left work = 2 * length work.waiting.keys + length work.under_way.items

-- a folder is the last one under way; where there is none, all were read
abbrev pub IsLast : Option Names → Work → Type 0
IsLast (Some dir) work = (front : List Names) × (work.under_way.items ≡ front ++ dir ∷ [])
IsLast None work = (work.waiting.keys ≡ []) × (work.under_way.items ≡ [])

-- the paths from the first on that is this one
abbrev pub from_first : Names → List Names → List Names
from_first first [] = []
from_first first (path ∷ paths) = if same_path path first then path ∷ paths else from_first first paths

module _ (sources : Tree) (settings : Entries) where
  -- the folders with a Tupfile are those that weren't begun, those under way and those that were read, each in one of these
  pub record IsWork (work : Work) : Type 0 where
    pub under_way : AreUnderWay sources settings work.readings work.under_way.items
    pub once : IsDistinct same_path work.under_way.items
    pub all : (dir : Names) → has_tupfile sources dir ≡ (contains by_names work.waiting dir || among dir work.under_way.items || is_some (finite.get work.readings dir))
    pub not_begun : (dir : Names) → IsTrue (contains by_names work.waiting dir) → (among dir work.under_way.items ≡ false) × (finite.get work.readings dir ≡ None)
    pub not_read : (dir : Names) → IsTrue (among dir work.under_way.items) → finite.get work.readings dir ≡ None

  -- what came of the reading of a folder over these readings
  abbrev pub HasCome : Readings → Names → Result Came FoldersFault → Type 0
  HasCome readings dir (Ok (Read left)) = IsReadingOver sources settings readings dir left
  HasCome readings dir (Ok (Waits next)) = WaitsFor sources settings readings dir next
  HasCome readings dir (Err (Parse fault)) = IsFaultOver sources settings readings dir fault
  HasCome readings dir (Err (Circular dirs)) = ⊥
  HasCome readings dir (Err Memory) = Unit {0}

-- all folders with a Tupfile wait, and none is under way or read
pub record IsStart (sources : Tree) (work : Work) : Type 0 where
  pub waiting : (dir : Names) → contains by_names work.waiting dir ≡ has_tupfile sources dir
  pub under_way : work.under_way.items ≡ []
  pub readings : work.readings ≡ finite.empty

-- the folder that is read next is the last one under way; the first one that wasn't begun is begun where none is. There is none
-- where all folders were read
pub record IsNext (dir : Option Names) (old new : Work) : Type 0 where
  pub work : (sources : Tree) (settings : Entries) → IsWork sources settings old → IsWork sources settings new
  pub readings : new.readings ≡ old.readings
  pub left : steps_left new ≤ steps_left old
  pub last : IsLast dir new

-- its reading is noted
pub record Notes (dir : Names) (left : Reading) (old new : Work) : Type 0 where
  pub waiting : new.waiting.keys ≡ old.waiting.keys
  pub under_way : old.under_way.items ≡ new.under_way.items ++ dir ∷ []
  pub readings : new.readings ≡ finite.insert old.readings dir left

-- a folder that waited is begun
pub record Begins (next : Names) (old new : Work) : Type 0 where
  pub waited : IsTrue (contains by_names old.waiting next)
  pub waiting : (dir : Names) → contains by_names new.waiting dir ≡ (contains by_names old.waiting dir && not (same_path dir next))
  pub fewer : length new.waiting.keys < length old.waiting.keys
  pub under_way : new.under_way.items ≡ old.under_way.items ++ next ∷ []
  pub readings : new.readings ≡ old.readings

-- one is under way, or none waits; or else the first of those that waited is begun
abbrev pub BeginsFirst : Work → Work → Type 0
BeginsFirst old new =
    ((new ≡ old) × ((0 < length old.under_way.items) ⊎ (old.waiting.keys ≡ [])))
    ⊎ ((old.under_way.items ≡ []) × ((dir : Names) × Begins dir old new × IsLowerBound by_names old.waiting dir))

-- it was begun before, and the folders from there on wait for each other
abbrev pub Closes : Names → Work → FoldersFault → Type 0
Closes next old (Circular dirs) = (contains by_names old.waiting next ≡ false) × (dirs ≡ from_first next old.under_way.items)
Closes next old (Parse fault) = ⊥
Closes next old Memory = Unit {0}

-- a reading that stopped waits for a folder, or memory was wanting
abbrev pub HasStopped : Option Stop → Result Came FoldersFault → Type 0
HasStopped stop (Ok (Waits next)) = stop ≡ Some (Awaits next)
HasStopped stop (Ok (Read left)) = ⊥
HasStopped stop (Err Memory) = Unit {0}
HasStopped stop (Err (Parse fault)) = ⊥
HasStopped stop (Err (Circular dirs)) = ⊥
