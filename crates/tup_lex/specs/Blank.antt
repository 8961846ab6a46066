-- Spaces and tabs. They part words, and are dropped at both ends of a line (own).
use Rattle.std.specs.Prelude.{◌≡◌, ℕ, ◌+◌, ◌-◌, ◌<◌, ◌≤◌, Bool, true, false, ◌||◌, ◌==◌, List, length, take, drop, slice_index}
use Rattle.std.specs.List.{prefix_len, suffix_len}

-- a space, or a tab
abbrev pub is_blank : ℕ → Bool
is_blank byte = byte == 32 || byte == 9

-- a text from its first byte that isn't blank to its last one
abbrev pub trim : List ℕ → List ℕ
trim text = let rest = drop (prefix_len is_blank text) text in take (length rest - suffix_len is_blank rest) rest

-- every byte from one place up to another is blank
abbrev pub BlankFrom : List ℕ → ℕ → ℕ → Type 0
BlankFrom text from to = (k : ℕ) → from ≤ k → k < to → is_blank (slice_index text k) ≡ true

-- the places of the first and of the last byte that isn't blank
pub record Ends (text : List ℕ) (first last : ℕ) : Type 0 where
  pub ordered : first ≤ last
  pub within : last < length text
  pub before : BlankFrom text 0 first
  pub first_kept : is_blank (slice_index text first) ≡ false
  pub last_kept : is_blank (slice_index text last) ≡ false
  pub behind : BlankFrom text (last + 1) (length text)
