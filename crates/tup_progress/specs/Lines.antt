-- The lines that are shown of a command. Own.
use Rattle.std.specs.Prelude.{◌==◌, ℕ, if◌then◌else◌, List, [], ◌∷◌, ◌++◌, codes, decimal}
use Rattle.tup_path.specs.Name.{Names}
use Rattle.tup_path.specs.Show.{show}
use Rattle.tup_progress.specs.Plain.{plain}

-- the number of a command, and how many are planned, if that is known
abbrev pub numbered : ℕ → ℕ → List ℕ
numbered number planned = if planned == 0 then decimal number else decimal number ++ (codes "/" ++ decimal planned)

-- the number of a command, how many are planned, if that is known, and how many run beside it, if any do
abbrev pub count : ℕ → ℕ → ℕ → List ℕ
count number planned others = if others == 0 then numbered number planned else numbered number planned ++ (codes "+" ++ decimal others)

-- a command that is to be run: its count, its folder and its text
abbrev pub started : List ℕ → Names → List ℕ → List ℕ
started count dir text = plain (codes "[" ++ (count ++ (codes "] " ++ (show dir ++ (codes ": " ++ text)))))

-- the same in a line of its own
abbrev pub own_line : ℕ → ℕ → Names → List ℕ → List ℕ
own_line number planned dir text = started (count number planned 0) dir text ++ 10 ∷ []

-- a command that failed, in a line of its own
abbrev pub failed_line : Names → List ℕ → ℕ → List ℕ
failed_line dir text status = plain (show dir ++ (codes ": " ++ (text ++ (codes ": status " ++ decimal status)))) ++ 10 ∷ []
