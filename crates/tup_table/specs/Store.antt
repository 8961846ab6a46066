-- The bytes of a store (own). A head of 17 bytes: the first eight, the switch, and a number of eight bytes, the start. Then
-- come two areas, the low one right behind the head and the high one from the start on. An area is commits, each behind an
-- open gate, then a gate that isn't open. The high area is read where the switch is open, and else the low one.
use Rattle.std.specs.Prelude.{◌≡◌, ◌≢◌, ◌⊎◌, ℕ, ◌+◌, ◌-◌, ◌≤◌, List, [], ◌∷◌, ◌++◌, length, take, drop, get_or}
use Rattle.std.specs.List.{AllByRecursion}
use Rattle.byteorder.specs.Endian.{big_number}
use Rattle.tup_table.specs.declared.change.Change.{Change}
pub use Rattle.tup_table.specs.Spelling.{sized, IsSized, change_spelling, ChangeFits, payload, ChangesFit, commit, CommitFits, blocks}
use Rattle.tup_table.specs.Entries.{entries_of}
use Rattle.tup_table.specs.Compact.{compacted, live_size}

-- ---- the head
-- `tup-db2`, and the version
abbrev pub first_bytes : List ℕ
first_bytes = 116 ∷ 117 ∷ 112 ∷ 45 ∷ 100 ∷ 98 ∷ 50 ∷ 1 ∷ []

-- the head of a new store: the switch is closed, and the start is 0
abbrev pub header : List ℕ
header = first_bytes ++ 0 ∷ 0 ∷ 0 ∷ 0 ∷ 0 ∷ 0 ∷ 0 ∷ 0 ∷ 0 ∷ []

-- bytes that are the head of a store
pub record IsHead (head : List ℕ) : Type 0 where
  pub long : length head ≡ 17
  pub first : take 8 head ≡ first_bytes

-- the switch, in a head or in a store
abbrev pub switch_of : List ℕ → ℕ
switch_of head = get_or head 8 0

-- where the high area begins, by a head
abbrev pub start_of : List ℕ → ℕ
start_of head = big_number 8 (drop 9 head)

-- ---- an area
-- where reading ends: at the end of the store, at a gate that isn't open, whatever stands behind it, or at an open gate
-- with nothing behind it
abbrev pub IsEnd : List ℕ → Type 0
IsEnd [] = Unit {0}
IsEnd (gate ∷ rest) = (gate ≢ 1) ⊎ (rest ≡ [])

-- an open gate behind which something stands that is no commit
abbrev pub IsBroken : List ℕ → Type 0
IsBroken [] = ⊥
IsBroken (gate ∷ rest) = (gate ≡ 1) × (rest ≢ []) × ((changes : List Change) (more : List ℕ) → CommitFits changes → rest ≢ commit changes ++ more)

-- an area has these commits in front, and the rest behind them
pub record Follows (area : List ℕ) (commits : List (List Change)) (rest : List ℕ) : Type 0 where
  pub fits : AllByRecursion CommitFits commits
  pub whole : area ≡ blocks commits ++ rest

-- an area of these commits
abbrev pub IsArea : List ℕ → List (List Change) → Type 0
IsArea area commits = (rest : List ℕ) × Follows area commits rest × IsEnd rest

-- an area whose gate behind these commits is broken
abbrev pub BreaksBehind : List ℕ → List (List Change) → Type 0
BreaksBehind area commits = (rest : List ℕ) × Follows area commits rest × IsBroken rest

-- ---- a store
-- the head of a store, and what stands behind it
pub record HasHead (bytes head low : List ℕ) : Type 0 where
  pub is_head : IsHead head
  pub whole : bytes ≡ head ++ low

-- what stands from the start on, by what stands behind the head
abbrev pub high_area : List ℕ → List ℕ → List ℕ
high_area head low = drop (start_of head - 17) low

-- the start is behind the head, by one byte at least, and inside the store
pub record HasStart (head low : List ℕ) : Type 0 where
  pub behind : 18 ≤ start_of head
  pub inside : start_of head ≤ 17 + length low

-- the most bytes that a store may have once it is compacted
abbrev pub most_live : ℕ
most_live = 268435456

-- once these commits are compacted, the store ends before the start, and has no more bytes than it may have
pub record HasRoomBelow (start : ℕ) (commits : List (List Change)) : Type 0 where
  pub below : live_size (entries_of commits) ≤ start
  pub small : live_size (entries_of commits) ≤ most_live

-- the switch is closed, and the low area has these commits
pub record IsLow (bytes : List ℕ) (commits : List (List Change)) : Type 0 where
  pub head : List ℕ
  pub low : List ℕ
  pub parts : HasHead bytes head low
  pub closed : switch_of head ≢ 1
  pub area : IsArea low commits

-- the switch is open, and the high area has these commits
pub record IsHigh (bytes : List ℕ) (commits : List (List Change)) : Type 0 where
  pub head : List ℕ
  pub low : List ℕ
  pub parts : HasHead bytes head low
  pub switched : switch_of head ≡ 1
  pub start : HasStart head low
  pub area : IsArea (high_area head low) commits
  pub room : HasRoomBelow (start_of head) commits

-- The bytes are a store of these commits. One whose switch is open is a store of the commit to which it is being compacted.
abbrev pub IsStore : List ℕ → List (List Change) → Type 0
IsStore bytes commits = IsLow bytes commits ⊎ ((high : List (List Change)) × IsHigh bytes high × (commits ≡ compacted (entries_of high)))

-- ---- what is no store
-- the bytes aren't empty, and don't begin with a head
abbrev pub HasNoHead : List ℕ → Type 0
HasNoHead bytes = (bytes ≢ []) × ((head low : List ℕ) → HasHead bytes head low → ⊥)

-- the switch is closed, and the low area is broken at this offset
pub record IsBrokenLow (bytes : List ℕ) (offset : ℕ) : Type 0 where
  pub head : List ℕ
  pub low : List ℕ
  pub parts : HasHead bytes head low
  pub closed : switch_of head ≢ 1
  pub commits : List (List Change)
  pub breaks : BreaksBehind low commits
  pub place : offset ≡ 17 + length (blocks commits)

-- the high area that this head leads to isn't there, is broken, or leaves too little room before it
abbrev pub IsBadHigh : List ℕ → List ℕ → ℕ → Type 0
IsBadHigh head low offset =
    (¬ HasStart head low × (offset ≡ 9))
    ⊎ ((start : HasStart head low) × (commits : List (List Change)) × BreaksBehind (high_area head low) commits × (offset ≡ start_of head + length (blocks commits)))
    ⊎ ((start : HasStart head low) × (commits : List (List Change)) × IsArea (high_area head low) commits × ¬ HasRoomBelow (start_of head) commits × (offset ≡ 9))

-- the switch is open, and the high area is bad at this offset
pub record IsBrokenHigh (bytes : List ℕ) (offset : ℕ) : Type 0 where
  pub head : List ℕ
  pub low : List ℕ
  pub parts : HasHead bytes head low
  pub switched : switch_of head ≡ 1
  pub bad : IsBadHigh head low offset

-- the bytes are no store, because of what stands at this offset
abbrev pub IsDamaged : List ℕ → ℕ → Type 0
IsDamaged bytes offset = (HasNoHead bytes × (offset ≡ 0)) ⊎ IsBrokenLow bytes offset ⊎ IsBrokenHigh bytes offset
