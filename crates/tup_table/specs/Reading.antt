-- What the bytes of a store read as (own).
use Rattle.std.specs.Prelude.{◌≡◌, ℕ, ◌+◌, List, [], ◌++◌, length, Result, Ok, Err}
use Rattle.tup_table.specs.declared.change.Change.{Change}
use Rattle.tup_table.specs.declared.fault.TableFault.{TableFault}
use Rattle.tup_table.specs.declared.fault.TableFault.TheVariants.{NotThere, BadStore}
use Rattle.tup_table.specs.declared.found.Found.{Found}
use Rattle.tup_table.specs.declared.found.Found.TheVariants.{Low, High}
use Rattle.tup_table.specs.declared.opened.Opened.{Opened}
use Rattle.tup_table.specs.Store.{header, blocks, start_of, IsArea, BreaksBehind, IsLow, IsHigh, IsStore, IsDamaged}
use Rattle.tup_table.specs.Entries.{entries_of}
use Rattle.tup_table.specs.Compact.{compacted, compact_area}

-- what commits leave in the low area, and the offset of the gate behind them
abbrev pub opened_of : List (List Change) → Opened
opened_of commits = record { entries = entries_of commits; gate = length (header ++ blocks commits) }

-- what a store's commits leave, nothing where the bytes are empty, or the offset of the damage
abbrev pub ReadsAs : List ℕ → Result Opened TableFault → Type 0
ReadsAs bytes (Ok opened) = (commits : List (List Change)) × IsStore bytes commits × (opened ≡ opened_of commits)
ReadsAs bytes (Err NotThere) = bytes ≡ []
ReadsAs bytes (Err (BadStore offset)) = IsDamaged bytes offset
ReadsAs bytes (Err _) = ⊥

-- what an area reads as that begins at this offset: its entries as in the low area
abbrev pub AreaReadsAs : ℕ → List ℕ → Result Opened TableFault → Type 0
AreaReadsAs start area (Ok opened) = (commits : List (List Change)) × IsArea area commits × (opened ≡ record { entries = entries_of commits; gate = start + length (blocks commits) })
AreaReadsAs start area (Err (BadStore offset)) = (commits : List (List Change)) × BreaksBehind area commits × (offset ≡ start + length (blocks commits))
AreaReadsAs start area (Err _) = ⊥

-- where a store was read: in the low area, or in the high one, up to the gate at this offset, with what it is compacted to
abbrev pub WasFound : List ℕ → Found → Type 0
WasFound bytes (Low opened) = (commits : List (List Change)) × IsLow bytes commits × (opened ≡ opened_of commits)
WasFound bytes (High snapshot end) =
    (commits : List (List Change)) × (high : IsHigh bytes commits) × (snapshot.opened ≡ opened_of (compacted (entries_of commits)))
    × (snapshot.area ≡ compact_area (entries_of commits)) × (end ≡ start_of high.head + length (blocks commits))

-- where a store was read, or why it isn't one
abbrev pub FindsAs : List ℕ → Result Found TableFault → Type 0
FindsAs bytes (Ok found) = WasFound bytes found
FindsAs bytes (Err fault) = ReadsAs bytes (Err fault)

-- what a store stands for, by where it was read
abbrev pub opened_by : Found → Opened
opened_by (Low opened) = opened
opened_by (High snapshot end) = snapshot.opened
