-- Values with their numbers (own).
use Rattle.std.specs.Prelude.{ℕ, suc, List, [], ◌∷◌, ◌++◌}

-- what is had of values by their numbers, one after another, where the first of all has this number
abbrev pub numbered : {X Y : Type 0} → (ℕ → X → List Y) → ℕ → List X → List Y
numbered f number [] = []
numbered f number (x ∷ xs) = f number x ++ numbered f (suc number) xs
