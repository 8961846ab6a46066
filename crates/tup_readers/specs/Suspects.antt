-- Rules whose records no longer tell what is seen (own).
use Rattle.std.specs.Prelude.{◌≡◌, ◌≢◌, ◌⊎◌, ℕ, true, List, Option, Some, Contains}
use Rattle.std.specs.BTreeSet.{BTreeSet, contains}
use Rattle.std.specs.FinMap as finite
use Rattle.std.specs.Ordering.{nat_cmp}
use Rattle.tup_path.specs.Name.{Names}
use Rattle.tup_path.specs.Order.{by_names}
use Rattle.tup_stamp.specs.declared.Stamp.{Stamp}
use Rattle.tup_record.specs.declared.run.RunRecord.{RunRecord}
use Rattle.tup_readers.specs.declared.suspects.Suspects.{Suspects}

-- the stamps of files, and the records of runs by the numbers of their rules
abbrev pub Stamps : Type 0
Stamps = finite.FinMap by_names Stamp

-- the records of runs, by the numbers of their rules
abbrev pub Runs : Type 0
Runs = finite.FinMap nat_cmp RunRecord

-- one of some asks was told another stamp than that of now
abbrev pub AskedOther : Stamps → List (Names × Option Stamp) → Type 0
AskedOther seen asks = (path : Names) × (given : Option Stamp) × Contains asks (path, given) × (given ≢ finite.get seen path)

-- one of some files was written with another
abbrev pub WroteOther : Stamps → List (Names × Stamp) → Type 0
WroteOther seen files = (path : Names) × (given : Stamp) × Contains files (path, given) × (Some given ≢ finite.get seen path)

-- a record tells another stamp of a path than that of now
abbrev pub TellsOther : Stamps → RunRecord → Type 0
TellsOther seen run = AskedOther seen run.asks ⊎ WroteOther seen run.writes

-- a number is among some
abbrev pub IsAmong : BTreeSet ℕ → ℕ → Type 0
IsAmong numbers number = contains nat_cmp numbers number ≡ true

-- each rule whose record tells another stamp is among these
abbrev pub HasAllOthers : Stamps → Runs → BTreeSet ℕ → Type 0
HasAllOthers seen runs numbers = (number : ℕ) (run : RunRecord) → finite.get runs number ≡ Some run → TellsOther seen run → IsAmong numbers number

-- each of some entries whose record does
abbrev pub HasOthersOf : Stamps → List (ℕ × RunRecord) → BTreeSet ℕ → Type 0
HasOthersOf seen entries numbers = (number : ℕ) (run : RunRecord) → Contains entries (number, run) → TellsOther seen run → IsAmong numbers number

-- the suspects of files and records
abbrev pub AreSuspects : Stamps → Runs → Suspects → Type 0
AreSuspects seen runs suspects = HasAllOthers seen runs suspects.numbers
