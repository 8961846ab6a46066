-- The fronts of keys (own): numbers by which most keys are put in order.
use Rattle.std.specs.Prelude.{ℕ, ◌*◌, leb, if◌then◌else◌, List, length, Option}
use Rattle.std.specs.Int.{rotate_right, w128}
use Rattle.std.specs.List.Sorted.{IsStableByKey}
use Rattle.std.specs.Ordering.{nat_cmp}
use Rattle.byteorder.specs.Endian.{big_number}
use Rattle.tup_table.specs.Slots.{Slots}
use Rattle.tup_table.specs.declared.entry.Entry.{Entry}

-- so many first bytes as a number, in the place of the highest of 16 bytes
abbrev pub front_by : ℕ → List ℕ → ℕ
front_by count key = rotate_right w128 (big_number count key) (8 * count)

-- the front of a key: its first 16 bytes, or all of them
abbrev pub front_of : List ℕ → ℕ
front_of key = if leb 16 (length key) then front_by 16 key else front_by (length key) key

-- those of one front stand in the order in which they stood before
abbrev pub AreByFronts : Slots → Slots → Type 0
AreByFronts slots sorted = IsStableByKey (λ (slot : List ℕ × Option Entry). front_of slot.0) nat_cmp slots sorted
