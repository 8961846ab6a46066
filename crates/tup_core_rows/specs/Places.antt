-- The places of rules, one after another (own).
use Rattle.std.specs.Prelude.{◌≡◌, ℕ, ◌<◌, List, length, get_or}

-- the numbers below a count, each at its place
pub record AreBelow (count : ℕ) (places : List ℕ) : Type 0 where
  pub many : length places ≡ count
  pub each : (k : ℕ) → k < count → get_or places k 0 ≡ k
