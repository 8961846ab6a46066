-- A store without what was replaced or deleted (own): one commit that puts all entries.
use Rattle.std.specs.Prelude.{◌≡◌, ℕ, zero, suc, ◌+◌, List, [], ◌∷◌, ◌++◌, length, map, Option, Some, None}
use Rattle.std.specs.List.{AllByRecursion}
use Rattle.tup_table.specs.declared.change.Change.{Change}
use Rattle.tup_table.specs.declared.change.Change.TheVariants.{Put, Delete}
use Rattle.tup_table.specs.declared.entry.Entry.{Entry}
use Rattle.tup_table.specs.Spelling.{IsSized, blocks}
use Rattle.tup_table.specs.Entries.{Standing, entry_at}

-- the keys with their values, wherever these were put
abbrev pub values_of : Standing → List (List ℕ × List ℕ)
values_of entries = map (λ (e : List ℕ × Entry). (e.0, e.1.value)) entries

-- the same keys with the same values
abbrev pub HasSameValues : Standing → Standing → Type 0
HasSameValues one other = values_of one ≡ values_of other

-- the same entries, all put by the commit behind the gate at this offset
abbrev pub moved : ℕ → Standing → Standing
moved origin entries = map (λ (e : List ℕ × Entry). (e.0, record { value = e.1.value; origin = origin })) entries

-- the change that puts a key with its value
abbrev pub put_of : List ℕ × List ℕ → Change
put_of pair = Put pair.0 pair.1

-- the changes that put all entries
abbrev pub puts : Standing → List Change
puts entries = map put_of (values_of entries)

-- one commit of changes, where there are any
abbrev pub at_once : List Change → List (List Change)
at_once [] = []
at_once (change ∷ changes) = (change ∷ changes) ∷ []

-- the commits that are left: one that puts all entries
abbrev pub compacted : Standing → List (List Change)
compacted entries = at_once (puts entries)

-- what compacting writes: these commits, and a closed gate
abbrev pub compact_area : Standing → List ℕ
compact_area entries = blocks (compacted entries) ++ 0 ∷ []

-- how many bytes entries take in a commit
abbrev pub size_of : Standing → ℕ
size_of [] = 0
size_of (e ∷ entries) = 7 + length e.0 + length e.1.value + size_of entries

-- how many bytes an entry takes there, where one is
abbrev pub size_in : List ℕ → Option Entry → ℕ
size_in key None = 0
size_in key (Some entry) = 7 + length key + length entry.value

-- how many bytes the entry of a key takes there
abbrev pub size_at : Standing → List ℕ → ℕ
size_at entries key = size_in key (entry_at entries key)

-- the size under a key: what is known of it, or else that of its entry
abbrev pub size_known : Standing → Option ℕ → List ℕ → ℕ
size_known entries None key = size_at entries key
size_known entries (Some size) key = size

-- how many bytes the entry takes that a change leaves under its key
abbrev pub size_left : Change → ℕ
size_left (Put key value) = 7 + length key + length value
size_left (Delete key) = 0

-- how many bytes a compacted store has whose entries take this many
abbrev pub live_by : ℕ → ℕ
live_by zero = 18
live_by (suc more) = 23 + suc more

-- how many bytes a store has once it is compacted
abbrev pub live_size : Standing → ℕ
live_size entries = live_by (size_of entries)

-- an entry can be put by a commit
abbrev pub EntryFits : List ℕ × Entry → Type 0
EntryFits e = IsSized 2 e.0 × IsSized 4 e.1.value

-- all entries can
abbrev pub EntriesFit : Standing → Type 0
EntriesFit entries = AllByRecursion EntryFits entries
