-- What a table's calls add to what a crash may leave (own).
use Rattle.std.specs.Prelude.{◌≡◌, ◌≢◌, ◌⊎◌, ℕ, ◌+◌, ◌≤◌, List, [], ◌∷◌, ◌++◌, take, drop, if◌then◌else◌, ◌==◌, length}
use Rattle.tup_site.specs.World.{World, TreeStays}
use Rattle.tup_table.specs.declared.change.Change.{Change}
use Rattle.tup_table.specs.declared.opened.Opened.{Opened}
use Rattle.tup_table.specs.Store.{first_bytes, header, blocks, CommitFits, HasHead, switch_of, start_of, high_area, IsLow, IsHigh, IsStore}
use Rattle.tup_table.specs.Compact.{HasSameValues, compact_area}
use Rattle.tup_table.specs.Entries.{Standing, entries_of}
use Rattle.tup_table.specs.Appending.{appending}

-- the bytes are a store that leaves these entries
abbrev pub Leaves : Standing → List ℕ → Type 0
Leaves entries bytes = (commits : List (List Change)) × IsStore bytes commits × (entries ≡ entries_of commits)

-- the bytes are a store with the keys and values of these entries, wherever they were put
abbrev pub Keeps : Standing → List ℕ → Type 0
Keeps entries bytes = (found : Standing) × Leaves found bytes × HasSameValues found entries

-- a commit leaves the tree as it is, and a store with the entries before it or after it
pub record CommitStep (before after : Standing) (v w : World) : Type 0 where
  pub tree : TreeStays v w
  pub store : Keeps before w.store ⊎ Keeps after w.store

-- compacting leaves the tree as it is, and a store with the same entries
pub record CompactStep (entries : Standing) (v w : World) : Type 0 where
  pub tree : TreeStays v w
  pub store : Keeps entries w.store

-- the bytes that a commit of these changes puts behind the gate at this offset, in a store of these commits
pub record IsNext (commits : List (List Change)) (changes : List Change) (gate : ℕ) (bytes : List ℕ) : Type 0 where
  pub fits : CommitFits changes
  pub place : gate ≡ length (header ++ blocks commits)
  pub spelling : bytes ≡ appending changes

-- the bytes of a store with a commit of these changes at the gate at this offset
abbrev pub written_at : ℕ → List Change → List ℕ → List ℕ
written_at gate changes bytes = take gate bytes ++ 1 ∷ (appending changes ++ drop (gate + (1 + length (appending changes))) bytes)

-- the bytes of a compacted store of these entries, with the start in these eight bytes
abbrev pub compacted_store : List ℕ → Standing → List ℕ
compacted_store start entries = first_bytes ++ 0 ∷ (start ++ compact_area entries)

-- ---- the end of an area
-- an end without a closed gate: none at all, or an open one with nothing behind it
abbrev pub LacksGate : List ℕ → Type 0
LacksGate rest = (rest ≡ []) ⊎ (rest ≡ 1 ∷ [])

-- the end of an area, with a closed gate where none stands or an open one with nothing behind it
abbrev pub closed_end : List ℕ → List ℕ
closed_end [] = 0 ∷ []
closed_end (gate ∷ rest) = (if gate == 1 then 0 else gate) ∷ rest

-- what a write of the closed gate that an end lacks may leave of it, should it fail: all of it, or one byte, whichever
abbrev pub MayClose : List ℕ → List ℕ → Type 0
MayClose rest left = (left ≡ rest) ⊎ (LacksGate rest × (length left ≡ 1))

-- what is written at a store's end leaves the tree as it is, and all bytes but a closed gate that the end lacks
pub record EndStep (gate : ℕ) (bytes : List ℕ) (v w : World) : Type 0 where
  pub tree : TreeStays v w
  pub left : List ℕ
  pub closes : MayClose (drop gate bytes) left
  pub whole : w.store ≡ take gate bytes ++ left

-- ---- an opening
-- the switch is closed, and the bytes are those of the store, all but a closed gate that its end lacks
pub record IsClosing (before after : List ℕ) : Type 0 where
  pub commits : List (List Change)
  pub low : IsLow before commits
  pub left : List ℕ
  pub closes : MayClose (drop (length (header ++ blocks commits)) before) left
  pub whole : after ≡ take (length (header ++ blocks commits)) before ++ left

-- the high area stands as before, all but a closed gate that its end lacks
abbrev pub MayCloseHigh : List (List Change) → List ℕ → List ℕ → Type 0
MayCloseHigh commits before after = (rest left : List ℕ) × (before ≡ blocks commits ++ rest) × MayClose rest left × (after ≡ blocks commits ++ left)

-- The switch is open. The first eight bytes and the start stay. The high area stays too while the low one is written, all
-- but a closed gate that its end lacks; once the switch is closed, the low area is compact, whatever stands behind it.
pub record IsFinishing (before after : List ℕ) : Type 0 where
  pub commits : List (List Change)
  pub high : IsHigh before commits
  pub head : List ℕ
  pub low : List ℕ
  pub parts : HasHead after head low
  pub start : drop 9 head ≡ drop 9 high.head
  pub area :
      ((switch_of head ≡ 1) × (start_of high.head ≤ 17 + length low) × MayCloseHigh commits (high_area high.head high.low) (high_area head low))
      ⊎ ((closed : switch_of head ≢ 1) × (rest : List ℕ) × (low ≡ compact_area (entries_of commits) ++ rest))

-- what finishes to compact a store of these bytes leaves the tree as it is
pub record FinishStep (before : List ℕ) (v w : World) : Type 0 where
  pub tree : TreeStays v w
  pub store : IsFinishing before w.store

-- the bytes are what an opening makes of those of a store, or what a crash of one leaves of them
abbrev pub IsEndWritten : List ℕ → List ℕ → Type 0
IsEndWritten before after = IsClosing before after ⊎ IsFinishing before after

-- the bytes that opening a store leaves
abbrev pub rested : List ℕ → Opened → List ℕ
rested bytes opened =
    if switch_of bytes == 1
    then compacted_store (take 8 (drop 9 bytes)) opened.entries
    else take opened.gate bytes ++ closed_end (drop opened.gate bytes)

-- an opening leaves the tree as it is, and a store of the same entries
pub record OpenStep (v w : World) : Type 0 where
  pub tree : TreeStays v w
  pub entries : Standing
  pub before : Leaves entries v.store
  pub after : Leaves entries w.store
  pub end : IsEndWritten v.store w.store
