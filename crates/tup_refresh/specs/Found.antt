-- What is found of one folder (own).
use Rattle.std.specs.Prelude.{◌≡◌, ◌⊎◌, true, Option, Some, None, Result, Ok, Err}
use Rattle.std.specs.BTreeSet.{contains}
use Rattle.tup_path.specs.Name.{Names}
use Rattle.tup_path.specs.Order.{by_names}
use Rattle.tup_path.specs.Tree.{Tree}
use Rattle.tup_rule.specs.declared.question.Reading.{Reading}
use Rattle.tup_vars.specs.Table.{Entries}
use Rattle.tup_readings.specs.Answers.{Readings}
use Rattle.tup_readings.specs.Readings.{IsReadingOver, IsFaultOver, WaitsFor}
use Rattle.tup_readings.specs.declared.asked.Stop.{Stop}
use Rattle.tup_readings.specs.declared.asked.Stop.TheVariants.{Awaits, Memory as NoMemory}
use Rattle.tup_readings.specs.declared.fault.FoldersFault.{FoldersFault}
use Rattle.tup_readings.specs.declared.fault.FoldersFault.TheVariants.{Parse, Circular, Memory}
use Rattle.tup_refresh.specs.declared.asking.Halt.{Halt}
use Rattle.tup_refresh.specs.declared.asking.Halt.TheVariants as halt
use Rattle.tup_refresh.specs.declared.fetched.Fetched.{Fetched}
use Rattle.tup_refresh.specs.declared.found.Found.{Found}
use Rattle.tup_refresh.specs.declared.found.Found.TheVariants.{Stands, Read, Waits, Lacks}
use Rattle.tup_refresh.specs.Standing.{AllStand, OneIsOther}

-- what comes of a comparing that stopped
abbrev pub come_of : Stop → Result Found FoldersFault
come_of (Awaits next) = Ok (Waits next)
come_of NoMemory = Err Memory

-- what comes of a reading that halted
abbrev pub come_of_halt : Option Halt → Result Found FoldersFault
come_of_halt (Some (halt.Lacks path)) = Ok (Lacks path)
come_of_halt (Some (halt.Awaits next)) = Ok (Waits next)
come_of_halt (Some halt.Memory) = Err Memory
come_of_halt None = Err Memory

-- the content that is needed is one that wasn't asked for
abbrev pub IsLack : Fetched → Found → Type 0
IsLack fetched (Lacks path) = contains by_names fetched.missing path ≡ true
IsLack fetched (Stands left) = Unit {0}
IsLack fetched (Read left) = Unit {0}
IsLack fetched (Waits next) = Unit {0}

module _ (sources : Tree) (settings : Entries) (readings : Readings) (dir : Names) where
  -- why a folder isn't read to its end
  abbrev pub IsFault : FoldersFault → Type 0
  IsFault (Parse fault) = IsFaultOver sources settings readings dir fault
  IsFault (Circular dirs) = ⊥
  IsFault Memory = Unit {0}

  -- it was read as far as it goes
  abbrev pub HasRead : Result Found FoldersFault → Type 0
  HasRead (Ok (Stands left)) = ⊥
  HasRead (Ok (Read left)) = IsReadingOver sources settings readings dir left
  HasRead (Ok (Waits next)) = WaitsFor sources settings readings dir next
  HasRead (Ok (Lacks path)) = Unit {0}
  HasRead (Err fault) = IsFault fault

  -- no reading is kept that stands
  abbrev pub StandsNot : Option Reading → Type 0
  StandsNot kept = (kept ≡ None) ⊎ ((left : Reading) × (kept ≡ Some left) × OneIsOther sources settings readings dir left.asked)

  -- the kept one stands, or the folder is read, as far as its contents are known
  abbrev pub HasFound : Option Reading → Result Found FoldersFault → Type 0
  HasFound kept (Ok (Stands left)) = (kept ≡ Some left) × AllStand sources settings readings dir left.asked × IsReadingOver sources settings readings dir left
  HasFound kept (Ok (Read left)) = StandsNot kept × IsReadingOver sources settings readings dir left
  HasFound kept (Ok (Waits next)) = WaitsFor sources settings readings dir next
  HasFound kept (Ok (Lacks path)) = Unit {0}
  HasFound kept (Err fault) = IsFault fault
