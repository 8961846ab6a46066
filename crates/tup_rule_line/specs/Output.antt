-- The output words of a rule, from the manual; where an output may stand, and the order of refusals, is own.
use Rattle.std.specs.Prelude.{ℕ, zero, suc, ◌+◌, ◌-◌, ◌||◌, ◌==◌, Bool, true, false, not, ◌&&◌, if◌then◌else◌, List, [], ◌∷◌, ◌++◌, length, slice_get, codes, Some, None, Ok, Err, bytes_eq}
use Rattle.std.specs.List.{list_any}
use Rattle.tup_path.specs.Name.{Names}
use Rattle.tup_path.specs.Resolve.{above}
use Rattle.tup_lex.specs.declared.kind.ParseKind.TheVariants.{ForeignOutput, DuplicateOutput, OutputIsSource, OutputIsDir, OutputBelowFile}
use Rattle.tup_rule.specs.Rule.{among}
use Rattle.tup_rule.specs.declared.draft.Draft.{Draft}
use Rattle.tup_rule.specs.declared.question.Kind.{Kind}
use Rattle.tup_rule.specs.declared.question.Kind.TheVariants.{Nothing, File, Dir}
use Rattle.tup_flags.specs.declared.parts.FlagParts.{FlagParts}
use Rattle.tup_query.specs.declared.fault.ParseFault.{ParseFault}
use Rattle.tup_query.specs.Reads.{Reads, gives, and_then}
use Rattle.tup_query.specs.Ask.{kind_at}
use Rattle.tup_query.specs.Spot.{Spot, refused}
use Rattle.tup_rule_line.specs.State.{made_by, is_made}
use Rattle.tup_rule_line.specs.Below.{is_below}
use Rattle.tup_rule_line.specs.Flagged.{flagged_text}
use Rattle.tup_rule_line.specs.Folder.{led}
use Rattle.tup_rule_line.specs.Input.{is_file}

-- whether a file of this name, in the top folder or another, says what to build
abbrev pub says_what_to_build : Bool → List ℕ → Bool
says_what_to_build at_top name =
    bytes_eq name (codes "Tupfile") || bytes_eq name (codes "Tuprules.tup") || (bytes_eq name (codes "tup.config") && at_top)

-- whether a path is that of such a file, which is no output
abbrev pub is_reserved : Names → Bool
is_reserved path =
    let last = length path - 1 in elim (slice_get path last) [ Some name ↦ says_what_to_build (last == 0) name | None ↦ false ]

-- whether a rule of a folder may make a path: a file below it that doesn't say what to build
abbrev pub may_make : Names → Names → Bool
may_make dir path = is_below dir path && not (is_reserved path)

-- whether a path is an output so far: of earlier rules, or of this one
abbrev pub is_taken : List Draft → List Names → Names → Bool
is_taken drafts outputs path = is_made drafts path || among path outputs

-- whether an output so far lies below a path
abbrev pub is_above_one : List Draft → List Names → Names → Bool
is_above_one drafts outputs path = list_any (is_below path) (made_by drafts) || list_any (is_below path) outputs

-- whether a file or an output so far stands where a folder has to be. A folder that has a Tupfile is another's
unfoldable pub is_blocked : Spot → List Draft → List Names → Names → Reads ParseFault Bool
is_blocked at drafts outputs folder =
    and_then (led at ForeignOutput folder (codes "Tupfile")) (λ tupfile. and_then (kind_at tupfile) (λ kind.
    if is_file kind then refused at ForeignOutput
    else and_then (kind_at folder) (λ kind. gives (is_file kind || is_taken drafts outputs folder))))

-- whether the way to a path is blocked at one of the folders above it: of as many as are given, from its own upward
unfoldable pub is_way_blocked : Spot → List Draft → List Names → Names → ℕ → Reads ParseFault Bool
is_way_blocked at drafts outputs path zero = gives false
is_way_blocked at drafts outputs path (suc count) = elim (above path) [
  | Ok folder ↦
      and_then (is_way_blocked at drafts outputs folder count) (λ blocked.
      and_then (is_blocked at drafts outputs folder) (λ here. gives (blocked || here)))
  | Err fault ↦ gives false
]

-- how many folders stand between a folder and a path below it
abbrev pub between : Names → Names → ℕ
between dir path = length path - (length dir + 1)

-- an output where nothing stands: nothing above it but folders, and no output below it
abbrev pub lone_output : Spot → List Draft → List Names → Names → Bool → Reads ParseFault Names
lone_output at drafts outputs path blocked = if blocked || is_above_one drafts outputs path then refused at OutputBelowFile else gives path

-- an output by what stands at its path and on the way to it: no output before it, no source and no folder, nothing above
-- it but folders, and no output below it
abbrev pub new_output : Spot → List Draft → List Names → Names → Bool → Kind → Reads ParseFault Names
new_output at drafts outputs path blocked kind =
    if is_taken drafts outputs path then refused at DuplicateOutput
    else elim kind [
      | File ↦ refused at OutputIsSource
      | Dir ↦ refused at OutputIsDir
      | Nothing ↦ lone_output at drafts outputs path blocked
    ]

-- a path as an output, behind those before it in its rule and those of earlier rules
unfoldable pub known_output : Spot → List Draft → List Names → Names → Reads ParseFault Names
known_output at drafts outputs path =
    if may_make at.dir path then
    and_then (is_way_blocked at drafts outputs path (between at.dir path)) (λ blocked. and_then (kind_at path) (λ kind. new_output at drafts outputs path blocked kind))
    else refused at ForeignOutput

-- the output that a word names
unfoldable pub from_output : Spot → FlagParts → List Draft → List Names → List ℕ → Reads ParseFault Names
from_output at parts drafts outputs word =
    and_then (flagged_text at parts word) (λ text. and_then (led at ForeignOutput at.dir text) (λ path. known_output at drafts outputs path))

-- the outputs that words name, behind those before them in the rule
unfoldable pub from_outputs : Spot → FlagParts → List Draft → List Names → List (List ℕ) → Reads ParseFault (List Names)
from_outputs at parts drafts outputs [] = gives outputs
from_outputs at parts drafts outputs (word ∷ more) =
    and_then (from_output at parts drafts outputs word) (λ path. from_outputs at parts drafts (outputs ++ path ∷ []) more)
