-- What an ended command is judged to be. From the manual: a command fails by its status, by a write that its
-- rule doesn't name, and by an output that it doesn't write.
use Rattle.std.specs.Prelude.{◌≡◌, ◌==◌, ℕ, Bool, false, not, List, [], ◌∷◌, Option, None, Some, Ok, Err, if◌then◌else◌, map, find, is_none, unwrap_or}
use Rattle.tup_path.specs.Name.{Names, Content}
use Rattle.tup_path.specs.Order.{same_path}
use Rattle.tup_path.specs.Resolve.{resolve}
use Rattle.tup_rule.specs.declared.rule.Rule.{Rule}
use Rattle.tup_rule.specs.Rule.{writes}
use Rattle.tup_runner.specs.declared.step.Ended.{Ended}
use Rattle.tup_access.specs.declared.verdict.Verdict.{Verdict}
use Rattle.tup_access.specs.declared.verdict.Verdict.TheVariants.{Good, Failed, IllegalWrite, Unwritten}

-- a verdict, and the files that a Good command leaves
pub record Judged : Type 0 where
  pub verdict : Verdict
  pub files : List (Names × Content)

-- a verdict and the files that are left, as a pair gives them
abbrev pub IsJudged : Verdict → List (Names × Content) → Judged → Type 0
IsJudged verdict files judged = (verdict ≡ judged.verdict) × (files ≡ judged.files)

-- a command that leaves nothing
abbrev pub bad : Verdict → Judged
bad verdict = record { verdict = verdict; files = [] }

-- a command that leaves these files
abbrev pub good : List (Names × Content) → Judged
good files = record { verdict = Good; files = files }

-- whether a text names this path from the rule's folder
abbrev pub names_path : Rule → Names → List ℕ → Bool
names_path rule path text = elim (resolve rule.dir text) [ Ok named ↦ same_path named path | Err fault ↦ false ]

-- whether a text names one of the rule's outputs
abbrev pub names_output : Rule → List ℕ → Bool
names_output rule text = elim (resolve rule.dir text) [ Ok named ↦ writes rule named | Err fault ↦ false ]

-- the first write that names no output
abbrev pub foreign_write : Rule → List (List ℕ × Content) → Option (List ℕ × Content)
foreign_write rule written = find (λ w. not (names_output rule w.0)) written

-- the last content that was written to a path
abbrev pub last_written : Rule → Names → List (List ℕ × Content) → Option Content
last_written rule path [] = None
last_written rule path (w ∷ written) =
    elim (last_written rule path written) [
      | Some content ↦ Some content
      | None ↦ if names_path rule path w.0 then Some w.1 else None
    ]

-- the first output that wasn't written
abbrev pub unwritten : Rule → List (List ℕ × Content) → Option Names
unwritten rule written = find (λ path. is_none (last_written rule path written)) rule.outputs

-- the outputs in the rule's order, each with its last content
abbrev pub files_of : Rule → List (List ℕ × Content) → List (Names × Content)
files_of rule written = map (λ path. (path, unwrap_or (last_written rule path written) [])) rule.outputs

-- the status comes first, then what was written, then what wasn't
abbrev pub judge : Rule → Ended → Judged
judge rule ended =
    if not (ended.status == 0) then bad (Failed ended.status)
    else elim (foreign_write rule ended.writes) [
      | Some w ↦ bad (IllegalWrite w.0)
      | None ↦ elim (unwritten rule ended.writes) [
        | Some path ↦ bad (Unwritten path)
        | None ↦ good (files_of rule ended.writes)
      ]
    ]
