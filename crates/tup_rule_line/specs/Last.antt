-- What stands before a byte at the end of a text (own).
use Rattle.std.specs.Prelude.{ℕ, ◌-◌, ◌==◌, if◌then◌else◌, List, length, take, slice_index, Option, Some, None}

-- a text without its last byte, if that is this one
abbrev pub before_last : ℕ → List ℕ → Option (List ℕ)
before_last byte text = let last = length text - 1 in if slice_index text last == byte then Some (take last text) else None
