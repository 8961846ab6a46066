-- What the reading of a number, of a line and of the next line answers.
use Rattle.std.specs.Prelude.{◌≡◌, ◌≢◌, ℕ, ◌<◌, ◌≤◌, ◌==◌, true, false, All, List, [], ◌∷◌, ◌++◌, length, drop, Option, Some, None, Result, Ok, Err}
use Rattle.std.specs.Fmt.{decimal}
use Rattle.tup_stamp.specs.Hex.{hex_text}
use Rattle.tup_stamp.specs.declared.Stamp.{Stamp}
use Rattle.tup_proc.specs.Log.{spelling_of, IsDigest, IsLine, IsLineText, IsBad, is_end}
use Rattle.tup_proc.specs.declared.fault.LogFault.{LogFault}
use Rattle.tup_proc.specs.declared.fault.LogFault.TheVariants.{Memory}
use Rattle.tup_proc.specs.declared.line.LogLine.{LogLine}

-- a mark stands nowhere in a list
abbrev pub Lacks : ℕ → List ℕ → Type 0
Lacks mark bytes = All (λ byte. (byte == mark) ≡ false) bytes

-- bytes are a front without the mark, the mark and a back
pub record IsCut (mark : ℕ) (bytes front back : List ℕ) : Type 0 where
  pub is : bytes ≡ front ++ mark ∷ back
  pub first : Lacks mark front

-- bytes are without the mark
abbrev pub IsUncut : ℕ → List ℕ → Type 0
IsUncut mark bytes = (front back : List ℕ) → bytes ≢ front ++ mark ∷ back

-- the number that digits spell, if they spell one
abbrev pub ReadsNumber : List ℕ → Result (Option ℕ) LogFault → Type 0
ReadsNumber digits (Ok (Some number)) = (number < 4294967296) × (digits ≡ decimal number)
ReadsNumber digits (Ok None) = (number : ℕ) → number < 4294967296 → digits ≢ decimal number
ReadsNumber digits (Err fault) = fault ≡ Memory

-- digits that spell no stamp
abbrev pub IsNoDigest : List ℕ → Type 0
IsNoDigest digits = (stamp : Stamp) → IsDigest stamp → digits ≢ hex_text stamp.0

-- the line that bytes spell, if they spell one
abbrev pub ReadsLine : List ℕ → Result (Option LogLine) LogFault → Type 0
ReadsLine bytes (Ok (Some line)) = IsLine line × (bytes ≡ spelling_of line)
ReadsLine bytes (Ok None) = (line : LogLine) → IsLine line → bytes ≢ spelling_of line
ReadsLine bytes (Err fault) = fault ≡ Memory

-- the line with which bytes begin and so many bytes of it and its line feed; an end has nothing behind it
pub record BeginsWith (bytes : List ℕ) (line : LogLine) (size : ℕ) : Type 0 where
  pub fits : IsLine line
  pub within : size ≤ length bytes
  pub spelled : bytes ≡ spelling_of line ++ 10 ∷ drop size bytes
  pub last : is_end line ≡ true → drop size bytes ≡ []

-- the next line of a log, if there is one
abbrev pub ReadsNext : List ℕ → Result (Option (LogLine × ℕ)) LogFault → Type 0
ReadsNext bytes (Ok (Some next)) = BeginsWith bytes next.0 next.1
ReadsNext bytes (Ok None) = IsBad bytes
ReadsNext bytes (Err fault) = fault ≡ Memory

-- the text that bytes are, if they may stand in a line
abbrev pub ReadsText : List ℕ → Result (Option (List ℕ)) LogFault → Type 0
ReadsText bytes (Ok (Some text)) = IsLineText text × (bytes ≡ text)
ReadsText bytes (Ok None) = IsLineText bytes → ⊥
ReadsText bytes (Err fault) = fault ≡ Memory
