-- What is said of two outcomes of one project.
use Rattle.std.specs.Prelude.{◌≡◌, List, Result, Ok, Err}
use Rattle.tup_path.specs.Name.{Names}
use Rattle.tup_rule.specs.declared.question.Reading.{Reading}
use Rattle.tup_readings.specs.declared.fault.FoldersFault.{FoldersFault}
use Rattle.tup_readings.specs.declared.fault.FoldersFault.TheVariants.{Parse, Circular, Memory}

-- they are the same, but for want of memory
abbrev pub AreAlike : Result (List (Names × Reading)) FoldersFault → Result (List (Names × Reading)) FoldersFault → Type 0
AreAlike (Err Memory) other = Unit {0}
AreAlike (Ok list) (Ok more) = list ≡ more
AreAlike (Ok list) (Err Memory) = Unit {0}
AreAlike (Ok list) (Err (Parse fault)) = ⊥
AreAlike (Ok list) (Err (Circular dirs)) = ⊥
AreAlike (Err (Parse fault)) (Err (Parse also)) = fault ≡ also
AreAlike (Err (Parse fault)) (Err Memory) = Unit {0}
AreAlike (Err (Parse fault)) (Ok list) = ⊥
AreAlike (Err (Parse fault)) (Err (Circular dirs)) = ⊥
AreAlike (Err (Circular dirs)) (Err (Circular others)) = dirs ≡ others
AreAlike (Err (Circular dirs)) (Err Memory) = Unit {0}
AreAlike (Err (Circular dirs)) (Ok list) = ⊥
AreAlike (Err (Circular dirs)) (Err (Parse fault)) = ⊥
