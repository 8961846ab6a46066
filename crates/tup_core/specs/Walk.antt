-- A walk from reader to reader, under way (own).
use Rattle.std.specs.Prelude.{◌≡◌, ℕ, ◌+◌, ◌<◌, ◌≤◌, ◌⊎◌, Bool, true, if◌then◌else◌, List, [], length, slice_get, unwrap_or}
use Rattle.std.specs.List.{sum_by}
use Rattle.tup_clean.specs.Queue.{count_of}
use Rattle.tup_core.specs.Waiting.{flag, number, times, Leads}

-- how many flags are down
abbrev pub downs : List Bool → ℕ
downs flags = sum_by (λ up. if up then 0 else 1) flags

-- the flagged places are found once, and no others are
abbrev pub AreFlagged : List Bool → List ℕ → Type 0
AreFlagged seen found = (at : ℕ) → count_of at found ≡ (if flag seen at then 1 else 0)

-- some places were noted: those that weren't flagged are now, and stand behind those that were found before
pub record Notes (places : List ℕ) (seen : List Bool) (found : List ℕ) (new : List Bool) (now : List ℕ) : Type 0 where
  pub many : length new ≡ length seen
  pub flagged : AreFlagged seen found → AreFlagged new now
  pub kept : (at : ℕ) → flag seen at ≡ true → flag new at ≡ true
  pub noted : (at : ℕ) → 0 < count_of at places → flag new at ≡ true
  pub others : (at : ℕ) → flag new at ≡ true → (flag seen at ≡ true) ⊎ (0 < count_of at places)
  pub longer : length found ≤ length now
  pub front : (i : ℕ) → i < length found → number now i ≡ number found i
  pub measure : downs new + length now ≡ downs seen + length found

-- the flags of some places were put up, and no others
pub record Raises (places : List ℕ) (old new : List Bool) : Type 0 where
  pub many : length new ≡ length old
  pub up : (at : ℕ) → 0 < count_of at places → flag new at ≡ true
  pub kept : (at : ℕ) → flag old at ≡ true → flag new at ≡ true
  pub others : (at : ℕ) → flag new at ≡ true → (flag old at ≡ true) ⊎ (0 < count_of at places)

-- the readers of a rule, if it was reached
abbrev pub readers_if : List (List ℕ) → List Bool → ℕ → List ℕ
readers_if readers reached at = if flag reached at then unwrap_or (slice_get readers at) [] else []

-- what a walk goes on to: the readers of a rule, unless it was reached
abbrev pub follows : List (List ℕ) → List Bool → ℕ → List ℕ
follows readers reached at = if flag reached at then [] else unwrap_or (slice_get readers at) []

-- a walk from a rule, in which so many of those found were followed
pub record IsWalked (readers : List (List ℕ)) (reached : List Bool) (from : ℕ) (found : List ℕ) (next : ℕ) (seen : List Bool) : Type 0 where
  pub many : length seen ≡ length readers
  pub flagged : AreFlagged seen found
  pub first : (at : ℕ) → 0 < times readers from at → flag seen at ≡ true
  pub onward : (i : ℕ) → i < next → (at : ℕ) → 0 < count_of at (follows readers reached (number found i)) → flag seen at ≡ true
  pub led : (at : ℕ) → flag seen at ≡ true → (between : ℕ) × Leads between readers from at
  pub behind : next ≤ length found
