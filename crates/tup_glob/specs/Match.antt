-- Which names a glob matches, in characters (from the manual).
-- The first `*` of `**` takes nothing where the second can take it: the shortest run that lets the rest match.
use Rattle.std.specs.Prelude.{ℕ, Bool, true, false, ◌&&◌, if◌then◌else◌, List, [], ◌∷◌, Option, Some, None, is_some}
use Rattle.tup_glob.specs.declared.symbol.Symbol.{Symbol}
use Rattle.tup_glob.specs.declared.symbol.Symbol.TheVariants.{Run}
use Rattle.tup_glob.specs.Symbol.{accepts}

-- the longest rest of a text that passes a test, be it the whole text or nothing of it
abbrev pub first_rest : (List ℕ → Bool) → List ℕ → Option (List ℕ)
first_rest test [] = if test [] then Some [] else None
first_rest test (char ∷ more) = if test (char ∷ more) then Some (char ∷ more) else first_rest test more

-- whether symbols match a name: behind a run some rest of it, and behind another symbol what follows one character
abbrev pub matches : List Symbol → List ℕ → Bool
matches [] [] = true
matches [] (_ ∷ _) = false
matches (Run ∷ more) name = is_some (first_rest (matches more) name)
matches (_ ∷ _) [] = false
matches (symbol ∷ more) (char ∷ rest) = accepts symbol char && matches more rest
