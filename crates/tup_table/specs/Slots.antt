-- How entries are kept in memory (own): a key may have room without a value, so that a commit can be taken in without
-- memory once it is written.
use Rattle.std.specs.Prelude.{◌≡◌, ℕ, ◌≤◌, true, List, [], ◌∷◌, Option, Some, None, is_some}
use Rattle.std.specs.BTreeMap.{insert_entry, is_at}
use Rattle.std.specs.List.{AllByRecursion}
use Rattle.std.specs.Map.{lookup, update_all}
use Rattle.std.specs.Ordering.{eq_by_cmp}
use Rattle.tup_path.specs.Order.{by_bytes}
use Rattle.tup_table.specs.declared.change.Change.{Change}
use Rattle.tup_table.specs.declared.change.Change.TheVariants.{Put, Delete}
use Rattle.tup_table.specs.declared.entry.Entry.{Entry}
use Rattle.tup_table.specs.Entries.{Standing}
use Rattle.tup_table.specs.Compact.{EntriesFit, size_of}

-- keys with room, each with what stands under it
abbrev pub Slots : Type 0
Slots = List (List ℕ × Option Entry)

-- what stands in a slot, before other entries
abbrev pub in_front : List ℕ → Option Entry → Standing → Standing
in_front key None more = more
in_front key (Some entry) more = (key, entry) ∷ more

-- the entries of slots
abbrev pub standing : Slots → Standing
standing [] = []
standing (slot ∷ slots) = in_front slot.0 slot.1 (standing slots)

-- what stands in a slot, if there is one
abbrev pub in_slot : Option (Option Entry) → Option Entry
in_slot None = None
in_slot (Some slot) = slot

-- slots with more of them filled, one after another
abbrev pub gathered : Slots → Slots → Slots
gathered slots [] = slots
gathered slots (slot ∷ more) = gathered (insert_entry by_bytes slots slot.0 slot.1) more

-- the key of a change in a commit behind the gate at this offset, and what the change leaves there
abbrev pub slot_of : ℕ → Change → List ℕ × Option Entry
slot_of origin (Put key value) = (key, Some (record { value = value; origin = origin }))
slot_of origin (Delete key) = (key, None)

-- the change that puts this value under a key, or deletes the key where there is none
abbrev pub change_with : List ℕ → Option (List ℕ) → Change
change_with key None = Delete key
change_with key (Some value) = Put key value

-- a slot has the key of the next one
abbrev pub IsReplaced : List ℕ × Option Entry → Slots → Type 0
IsReplaced slot [] = ⊥
IsReplaced slot (next ∷ behind) = next.0 ≡ slot.0

-- once they are filled one after another, slots leave the same under each key, whatever stood there before
abbrev pub LeaveAlike : Slots → Slots → Type 0
LeaveAlike slots others = (before : List ℕ → Option (Option Entry)) (key : List ℕ) → update_all (eq_by_cmp by_bytes) before slots key ≡ update_all (eq_by_cmp by_bytes) before others key

-- the entries of slots have spellings, and take this many bytes
abbrev pub AreSlotsOf : ℕ → Slots → Type 0
AreSlotsOf size slots = EntriesFit (standing slots) × (size ≡ size_of (standing slots)) × (size ≤ 4611686018427387904)

-- a key has room
abbrev pub HasSlot : Slots → List ℕ → Type 0
HasSlot slots key = is_some (lookup (is_at (by_bytes key)) slots) ≡ true

-- the key of a change has room, if the change puts
abbrev pub HasRoom : Slots → Change → Type 0
HasRoom slots (Put key value) = HasSlot slots key
HasRoom slots (Delete key) = Unit {0}

-- those of all changes have
abbrev pub HaveRoom : Slots → List Change → Type 0
HaveRoom slots changes = AllByRecursion (HasRoom slots) changes

-- no room goes
abbrev pub RoomStays : Slots → Slots → Type 0
RoomStays old new = (change : Change) → HasRoom old change → HasRoom new change
