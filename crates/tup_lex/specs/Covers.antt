-- How joined lines stand to the lines of a file: each is a run of them, and the runs are the whole file (own).
use Rattle.std.specs.Prelude.{◌≡◌, ℕ, ◌+◌, true, List, [], ◌∷◌, ◌++◌, length}
use Rattle.std.specs.List.{flat_map}
use Rattle.tup_lex.specs.Line.{line_number, goes_on, unbroken}
use Rattle.tup_lex.specs.declared.line.Line.{Line}

-- a run of lines that belong together, and what follows it: each but the last goes on, and so does the last only where nothing follows
abbrev pub IsRun : List (List ℕ) → List (List ℕ) → Type 0
IsRun [] rest = ⊥
IsRun (text ∷ []) rest = goes_on text ≡ true → rest ≡ []
IsRun (text ∷ next ∷ more) rest = (goes_on text ≡ true) × IsRun (next ∷ more) rest

-- lines take the texts of a file in turn, where so many texts stand before them: each line is a run of texts
-- without the backslashes that join them, under the number of the first of them, and no text is left
abbrev pub Covers : ℕ → List Line → List (List ℕ) → Type 0
Covers before [] texts = texts ≡ []
Covers before (one ∷ more) texts = (run : List (List ℕ)) × (rest : List (List ℕ)) × (texts ≡ run ++ rest) × IsRun run rest × (one.number ≡ line_number before) × (one.text ≡ flat_map unbroken run) × Covers (before + length run) more rest
