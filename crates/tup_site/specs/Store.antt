-- The store file as the outside changes it: bytes that are written, cut and read at places.
use Rattle.std.specs.Prelude.{◌≡◌, ◌⊎◌, ℕ, ◌+◌, ◌≤◌, List, ◌++◌, length, take, drop, max}

-- new is old with these bytes at this place
abbrev pub Holds : List ℕ → ℕ → List ℕ → List ℕ → Type 0
Holds old at bytes new = new ≡ take at old ++ (bytes ++ drop (at + length bytes) old)

-- after a write of n bytes that failed: any bytes in the range, up to some part of it, and the same elsewhere
pub record IsTorn (at n : ℕ) (old new : List ℕ) : Type 0 where
  pub before : take at new ≡ take at old
  pub after : drop (at + n) new ≡ drop (at + n) old
  pub no_shorter : length old ≤ length new
  pub no_longer : length new ≤ max (length old) (at + n)

-- after a cut that failed: as before, or cut
abbrev pub IsCutOrNot : ℕ → List ℕ → List ℕ → Type 0
IsCutOrNot len old new = (new ≡ old) ⊎ (new ≡ take len old)
