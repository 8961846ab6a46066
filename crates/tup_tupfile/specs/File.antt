-- The files that a reading opens, and where each ends (own, but for which files an `include` names).
use Rattle.std.specs.Prelude.{ℕ, List, [], ◌∷◌, Option, Some, None, option_map, Ok, Err}
use Rattle.tup_path.specs.Name.{Names, Content}
use Rattle.tup_lex.specs.Line.{lines}
use Rattle.tup_lex.specs.declared.line.Line.{Line}
use Rattle.tup_lex.specs.declared.fault.LexFault.{LexFault}
use Rattle.tup_lex.specs.declared.fault.LexFault.TheVariants as fault
use Rattle.tup_lex.specs.declared.kind.ParseKind.TheVariants.{IncludeMissing, MissingEndif}
use Rattle.tup_vars.specs.Table.{Entries}
use Rattle.tup_query.specs.declared.fault.ParseFault.{ParseFault}
use Rattle.tup_tupfile.specs.declared.file.Held.{Held}
use Rattle.tup_tupfile.specs.declared.opening.Along.{Along}
use Rattle.tup_rule_line.specs.declared.state.State.{State}
use Rattle.tup_query.specs.Reads.{Reads, gives, and_then}
use Rattle.tup_query.specs.Ask.{content_at}
use Rattle.tup_query.specs.Spot.{Spot, spot, refused, folder_of}
use Rattle.tup_query.specs.Text.{expanded}
use Rattle.tup_rule_line.specs.Folder.{file_in, led}
use Rattle.tup_rule_line.specs.Words.{lex_kind}

-- a file by its path and its content
abbrev pub held : Names → Content → Held
held path content = record { path = path; content = content }

-- the source file at a path, if there is one
unfoldable pub held_at : {F : Type 0} → Names → Reads F (Option Held)
held_at path = and_then (content_at path) (λ content. gives (option_map (held path) content))

-- the source file of a name in a folder, if there is one
unfoldable pub held_in : {F : Type 0} → Names → List ℕ → Reads F (Option Held)
held_in dir name = elim (file_in dir name) [ Some path ↦ held_at path | None ↦ gives None ]

-- a file that is named in a line: it has to be there
unfoldable pub named_file : Spot → Names → Reads ParseFault Held
named_file at path = and_then (held_at path) (λ found. elim found [ Some file ↦ gives file | None ↦ refused at IncludeMissing ])

-- where the name of an `include` leads: from the folder of the file in which it stands
abbrev pub included_path : Spot → List ℕ → Reads ParseFault Names
included_path at name = led at IncludeMissing (folder_of at.file) name

-- the file that an `include` names
unfoldable pub included_file : Spot → Entries → List ℕ → Reads ParseFault Held
included_file at variables text =
    and_then (expanded at variables text) (λ name. and_then (included_path at name) (λ path. named_file at path))

-- the line of a file in which its text can't be cut into lines
abbrev pub fault_line : LexFault → ℕ
fault_line (fault.NotUtf8 line) = line
fault_line (fault.LineTooLong line) = line
fault_line _ = 1

-- the lines of a file
unfoldable pub lines_of : Names → Names → Content → Reads ParseFault (List Line)
lines_of dir file content = elim (lines content) [
  | Ok all ↦ gives all
  | Err fault ↦ refused (spot dir file (fault_line fault)) (lex_kind fault)
]

-- the end of a file: no conditional may be left open
unfoldable pub ended : Names → Names → Along → Reads ParseFault State
ended dir file before = elim before.levels [
  | [] ↦ gives before.state
  | outermost ∷ more ↦ refused (spot dir file outermost.line) MissingEndif
]
