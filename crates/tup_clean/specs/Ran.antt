-- What the runner of a clean build runs, and when it is the runner that failed.
use Rattle.std.specs.Prelude.{◌≡◌, ◌⊎◌, ℕ, List, [], ◌∷◌, ◌++◌, map, Result, Ok, Err}
use Rattle.tup_path.specs.Count.{Rose}
use Rattle.tup_path.specs.Name.{Names}
use Rattle.tup_path.specs.Tree.{Tree}
use Rattle.tup_rule.specs.declared.rule.Rule.{Rule}
use Rattle.tup_runner.specs.Next.{Next}
use Rattle.tup_clean.specs.Taken.{Taken, rules_taken, takes}
use Rattle.tup_clean.specs.declared.fault.CleanFault.{CleanFault}
use Rattle.tup_clean.specs.declared.fault.CleanFault.TheVariants.{Run, Memory}

-- what a runner is given of a rule: its folder and its command
abbrev pub command_of : Rule → Names × List ℕ
command_of rule = (rule.dir, rule.text)

-- the commands of rules that were taken, in their order
abbrev pub commands_of : List Rule → List Taken → List (Names × List ℕ)
commands_of rules taken = map command_of (rules_taken rules taken)

-- the commands of a clean build
abbrev pub commands : Next → List Rule → Tree → List (Names × List ℕ)
commands next rules sources = commands_of rules (takes next rules sources)

-- a run that was stopped ran its command; where there was no memory, perhaps not
abbrev pub BeginsOne : CleanFault → Names × List ℕ → List (Names × List ℕ) → List (Names × List ℕ) → Type 0
BeginsOne Memory command old new = (new ≡ old) ⊎ (new ≡ old ++ command ∷ [])
BeginsOne Run command old new = new ≡ old ++ command ∷ []

-- one more command was run
abbrev pub RunsOne : {T : Type 0} → Names × List ℕ → List (Names × List ℕ) → List (Names × List ℕ) → Result T CleanFault → Type 0
RunsOne command old new (Ok value) = new ≡ old ++ command ∷ []
RunsOne command old new (Err fault) = BeginsOne fault command old new

-- a front of these commands was run
abbrev pub RunsFront : List (Names × List ℕ) → List (Names × List ℕ) → List (Names × List ℕ) → Type 0
RunsFront all old new = (front rest : List (Names × List ℕ)) × (front ++ rest ≡ all) × (new ≡ old ++ front)

-- these commands were run, and a front of them where the build was stopped
abbrev pub RunsAll : {T : Type 0} → List (Names × List ℕ) → List (Names × List ℕ) → List (Names × List ℕ) → Result T CleanFault → Type 0
RunsAll all old new (Ok value) = new ≡ old ++ all
RunsAll all old new (Err fault) = RunsFront all old new

-- the runner's count of faults rises where it stops the build, and at no other answer
abbrev pub CountsFaults : {T : Type 0} → ℕ → ℕ → Result T CleanFault → Type 0
CountsFaults before now (Err Run) = Rose before now
CountsFaults before now result = now ≡ before
