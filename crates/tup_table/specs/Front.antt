-- What stands at the front of bytes (own).
use Rattle.std.specs.Prelude.{◌≡◌, ◌≢◌, ℕ, List, ◌++◌}

-- the bytes begin with the spelling of this value, and the rest stands behind it
abbrev pub Front : {A : Type 0} → (A → Type 0) → (A → List ℕ) → List ℕ → A → List ℕ → Type 0
Front Fits spelling bytes a rest = Fits a × (bytes ≡ spelling a ++ rest)

-- the bytes begin with no spelling
abbrev pub NoFront : {A : Type 0} → (A → Type 0) → (A → List ℕ) → List ℕ → Type 0
NoFront {A} Fits spelling bytes = (a : A) (rest : List ℕ) → Fits a → bytes ≢ spelling a ++ rest
