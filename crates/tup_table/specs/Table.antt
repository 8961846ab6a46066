-- A table, and the store of a site that it stands for (own).
use Rattle.std.specs.Prelude.{◌≡◌, ◌≢◌, ◌⊎◌, ℕ, ◌+◌, ◌*◌, ◌<◌, ◌≤◌, ltb, leb, ◌&&◌, if◌then◌else◌, Bool, true, false, List, ◌∷◌, ◌++◌, length, drop, Result, Ok, Err}
use Rattle.std.specs.List.{AllByRecursion}
use Rattle.tup_site.specs.World.{World}
use Rattle.tup_site.specs.Crash.{PinsStore}
use Rattle.tup_table.specs.declared.change.Change.{Change}
use Rattle.tup_table.specs.declared.fault.TableFault.{TableFault}
use Rattle.tup_table.specs.declared.fault.TableFault.TheVariants.{Site, Full, Memory}
use Rattle.tup_table.specs.declared.due.Due.{Due}
use Rattle.tup_table.specs.declared.table.Table.{Table}
use Rattle.byteorder.specs.Endian.{big_bytes, big_number}
use Rattle.tup_table.specs.Store.{header, blocks, CommitFits, IsHead, IsHigh, switch_of, most_live}
use Rattle.tup_table.specs.Compact.{compacted, compact_area, live_size, size_of}
use Rattle.tup_table.specs.Appending.{appending}
use Rattle.tup_table.specs.Entries.{Standing, committed, entries_of}
use Rattle.tup_table.specs.Images.{compacted_store}
use Rattle.tup_table.specs.Reading.{opened_of, ReadsAs}
use Rattle.tup_table.specs.declared.opened.Opened.{Opened}

-- what stands under the keys
abbrev pub entries_in : Table → Standing
entries_in table = table.entries

-- the offset of the gate at which the next commit goes
abbrev pub gate_of : Table → ℕ
gate_of table = table.gate

-- whether the table stands for its store
abbrev pub is_fresh : Table → Bool
is_fresh table = table.fresh

-- the switch is closed, and the low area has these commits, at whose end a gate stands that isn't open
pub record IsAtRest (commits : List (List Change)) (bytes : List ℕ) : Type 0 where
  pub fits : AllByRecursion CommitFits commits
  pub head : List ℕ
  pub is_head : IsHead head
  pub unswitched : switch_of head ≢ 1
  pub gate : ℕ
  pub rest : List ℕ
  pub closed : gate ≢ 1
  pub whole : bytes ≡ head ++ blocks commits ++ gate ∷ rest

-- the store of a site is at rest with these commits, and a crash now leaves just its bytes
pub record Rests {S : Type 0} (world : S → World) (moment : S → ℕ) (left_since : S → ℕ → World → Type 0) (commits : List (List Change)) (site : S) : Type 0 where
  pub bytes : IsAtRest commits (world site).store
  pub durable : PinsStore (left_since site (moment site)) (world site)

-- the store of a site is being compacted to this area: its switch is open, its high area has these commits, and a crash now
-- leaves just its bytes
pub record Switches {S : Type 0} (world : S → World) (moment : S → ℕ) (left_since : S → ℕ → World → Type 0) (commits : List (List Change)) (area : List ℕ) (site : S) : Type 0 where
  pub high : IsHigh (world site).store commits
  pub is_area : area ≡ compact_area (entries_of commits)
  pub durable : PinsStore (left_since site (moment site)) (world site)

-- the bytes are a store at rest with these commits, and from the start on, which its head names by these eight bytes, stands
-- this area
pub record IsBoth (commits : List (List Change)) (eight area bytes : List ℕ) : Type 0 where
  pub low : IsAtRest commits bytes
  pub start : drop 9 low.head ≡ eight
  pub inside : big_number 8 eight ≤ length bytes
  pub behind : length (header ++ blocks commits) < big_number 8 eight
  pub high : List ℕ
  pub is_high : drop (big_number 8 eight) bytes ≡ area ++ high

-- the store of a site is so, and a crash now leaves just its bytes
pub record HoldsBoth {S : Type 0} (world : S → World) (moment : S → ℕ) (left_since : S → ℕ → World → Type 0) (commits : List (List Change)) (eight area : List ℕ) (site : S) : Type 0 where
  pub bytes : IsBoth commits eight area (world site).store
  pub durable : PinsStore (left_since site (moment site)) (world site)

-- a table stands for the store of a site: it has what the commits there leave, and the next one goes at the gate behind them
pub record StandsFor {S : Type 0} (world : S → World) (moment : S → ℕ) (left_since : S → ℕ → World → Type 0) (table : Table) (site : S) : Type 0 where
  pub commits : List (List Change)
  pub rests : Rests world moment left_since commits site
  pub entries : entries_in table ≡ (opened_of commits).entries
  pub gate : gate_of table ≡ (opened_of commits).gate

-- what a table has, as the bytes of a store read
abbrev pub opened_in : Table → Opened
opened_in table = record { entries = table.entries; gate = table.gate }

-- what opening a store of these bytes answers; a failure of the site and want of memory say nothing of them
abbrev pub OpensAs : List ℕ → Result Table TableFault → Type 0
OpensAs bytes (Ok table) = ReadsAs bytes (Ok (opened_in table))
OpensAs bytes (Err Site) = Unit {0}
OpensAs bytes (Err Memory) = Unit {0}
OpensAs bytes (Err fault) = ReadsAs bytes (Err fault)

-- the fresh table of what bytes stand for
abbrev pub table_of : Opened → Table
table_of opened = record { entries = opened.entries; gate = opened.gate; fresh = true }

-- a table once its store is compacted
abbrev pub after_compacting : Table → Table
after_compacting table = table_of (opened_of (compacted table.entries))

-- the store is compacted before a commit that puts this many bytes behind its gate: with it the store would pass 536,870,912
-- bytes up to its next gate, and less than half of those before it are live
abbrev pub CompactsBefore : Table → ℕ → Type 0
CompactsBefore table len = (live_size table.entries ≤ most_live) × (2 * live_size table.entries < table.gate + 1) × (536870912 < table.gate + (1 + len))

-- whether it is
abbrev pub is_compacted_before : Table → ℕ → Bool
is_compacted_before table len =
    leb (live_size table.entries) most_live && (ltb (2 * live_size table.entries) (table.gate + 1) && ltb 536870912 (table.gate + (1 + len)))

-- the same for a commit of these changes
abbrev pub is_compacted_first : Table → List Change → Bool
is_compacted_first table changes = is_compacted_before table (length (appending changes))

-- the table to which a commit of these changes is made
abbrev pub ready : Table → List Change → Table
ready table changes = if is_compacted_first table changes then after_compacting table else table

-- the bytes of the store to which it is made
abbrev pub ready_bytes : Table → List Change → List ℕ → List ℕ
ready_bytes table changes bytes =
    if is_compacted_first table changes then compacted_store (big_bytes 8 (length bytes)) table.entries else bytes

-- a table after a commit that doesn't compact
abbrev pub after_writing : Table → List Change → Table
after_writing table changes =
    record { entries = committed table.gate table.entries changes; gate = table.gate + length (appending changes); fresh = true }

-- a table after a commit
abbrev pub after_commit : Table → List Change → Table
after_commit table changes = after_writing (ready table changes) changes

-- a table of whose store nothing is known any more
abbrev pub stale : Table → Table
stale table = record { entries = table.entries; gate = table.gate; fresh = false }

-- The live size after a commit of these changes would pass 268,435,456; or the store would pass 2,147,483,648 bytes up to
-- its next gate, which it can't where no key is named twice, a `Delete` names a key that is there, and the store has only
-- taken such commits.
abbrev pub IsOver : Table → List Change → Type 0
IsOver table changes =
    (most_live < live_size (after_commit table changes).entries) ⊎ (2147483648 < (ready table changes).gate + (1 + length (appending changes)))

-- a commit of these changes as it is written: its bytes, how many bytes the entries take after it, and whether the store is
-- compacted first; and it has room
pub record IsDue (table : Table) (changes : List Change) (due : Due) : Type 0 where
  pub fits : CommitFits changes
  pub bytes : due.bytes ≡ appending changes
  pub size : due.size ≡ size_of (after_commit table changes).entries
  pub small : due.size ≤ 4611686018427387904
  pub first : due.first ≡ is_compacted_first table changes
  pub live : live_size (after_commit table changes).entries ≤ most_live
  pub room : (ready table changes).gate + (1 + length (appending changes)) ≤ 2147483648

-- what a commit leaves, by its answer: nothing is written where the store would be too large, or where memory is wanting
-- and the table stays fresh
abbrev pub CommitLeaves : {S : Type 0} → List Change → Table → Table → S → S → Result (Unit {0}) TableFault → Type 0
CommitLeaves changes old new before after (Ok done) = new ≡ after_commit old changes
CommitLeaves changes old new before after (Err Full) = IsOver old changes × (new ≡ old) × (after ≡ before)
CommitLeaves changes old new before after (Err Site) = new ≡ stale old
CommitLeaves changes old new before after (Err Memory) = (new ≡ stale old) ⊎ ((new ≡ old) × (after ≡ before))
CommitLeaves changes old new before after (Err other) = ⊥

-- what a commit leaves that doesn't compact and has room
abbrev pub WriteLeaves : {S : Type 0} → List Change → Table → Table → S → S → Result (Unit {0}) TableFault → Type 0
WriteLeaves changes old new before after (Ok done) = new ≡ after_writing old changes
WriteLeaves changes old new before after (Err Site) = new ≡ stale old
WriteLeaves changes old new before after (Err Memory) = (new ≡ stale old) ⊎ ((new ≡ old) × (after ≡ before))
WriteLeaves changes old new before after (Err other) = ⊥

-- how compacting fails: by the site, or for want of memory, and then maybe before anything was written
abbrev pub CompactFails : {S : Type 0} → Table → Table → S → S → TableFault → Type 0
CompactFails old new before after fault = ((fault ≡ Site) × (new ≡ stale old)) ⊎ ((fault ≡ Memory) × ((new ≡ stale old) ⊎ ((new ≡ old) × (after ≡ before))))

-- What compacting leaves, by its answer: a store of too many live bytes stays. Nothing is written where memory is wanting
-- and the table stays fresh.
abbrev pub CompactLeaves : {S : Type 0} → Table → Table → S → S → Result (Unit {0}) TableFault → Type 0
CompactLeaves old new before after (Ok done) =
    (new ≡ after_compacting old) ⊎ ((most_live < live_size old.entries) × (new ≡ old) × (after ≡ before))
CompactLeaves old new before after (Err Site) = new ≡ stale old
CompactLeaves old new before after (Err Memory) = (new ≡ stale old) ⊎ ((new ≡ old) × (after ≡ before))
CompactLeaves old new before after (Err other) = ⊥

-- a store of this many bytes has more than 1,048,576, and more than four times as many as are live
abbrev pub IsSparse : Table → ℕ → Type 0
IsSparse table len = (1048576 < len) × (4 * live_size table.entries < len) × (live_size table.entries ≤ most_live)
