-- How symbols are put on a name stretch by stretch, where runs part the stretches (own).
use Rattle.std.specs.Prelude.{ℕ, Bool, true, if◌then◌else◌, List, [], ◌∷◌, Option, Some, None, is_some}
use Rattle.tup_glob.specs.declared.symbol.Symbol.{Symbol}
use Rattle.tup_glob.specs.declared.symbol.Symbol.TheVariants.{Run}
use Rattle.tup_glob.specs.Match.{first_rest, matches}
use Rattle.tup_glob.specs.Symbol.{accepts}

-- what the symbols before the first run leave of a name, if they fit at its front; without a run they leave nothing
abbrev pub fit : List Symbol → List ℕ → Option (List ℕ)
fit [] [] = Some []
fit [] (_ ∷ _) = None
fit (Run ∷ _) name = Some name
fit (_ ∷ _) [] = None
fit (symbol ∷ more) (char ∷ rest) = if accepts symbol char then fit more rest else None

-- the symbols behind the first run
abbrev pub behind_run : List Symbol → Option (List Symbol)
behind_run [] = None
behind_run (Run ∷ more) = Some more
behind_run (_ ∷ more) = behind_run more

-- whether symbols behind a run, if there are some, match what those before it left
abbrev pub match_left : Option (List Symbol) → List ℕ → Bool
match_left None left = true
match_left (Some others) left = is_some (first_rest (matches others) left)

-- the first place in a name at which the symbols before the first run fit
abbrev pub first_fit : List Symbol → List ℕ → Option (List ℕ)
first_fit symbols name = first_rest (λ rest. is_some (fit symbols rest)) name
