-- What the Tupfile of a folder reads as: a process over its lines, from top to bottom, which ends at the first fault.
-- From the manual; the limits on what is open at once are own.
use Rattle.std.specs.Prelude.{ℕ, zero, suc, if◌then◌else◌, List, [], ◌∷◌, ◌++◌, Option, Some, None, codes}
use Rattle.tup_path.specs.Name.{Names, Content}
use Rattle.tup_lex.specs.declared.line.Line.{Line}
use Rattle.tup_lex.specs.declared.kind.ParseKind.TheVariants as kind
use Rattle.tup_rule.specs.declared.draft.Draft.{Draft}
use Rattle.tup_vars.specs.Branches.{turned, left, all_on}
use Rattle.tup_vars.specs.Table.{Entries}
use Rattle.tup_query.specs.declared.fault.ParseFault.{ParseFault}
use Rattle.tup_tupfile.specs.declared.file.Held.{Held}
use Rattle.tup_tupfile.specs.declared.opening.Along.{Along}
use Rattle.tup_rule_line.specs.declared.state.State.{State}
use Rattle.tup_query.specs.Reads.{Reads, gives, and_then}
use Rattle.tup_query.specs.Spot.{Spot, spot, refused}
use Rattle.tup_rule_line.specs.State.{fresh}
use Rattle.tup_query.specs.Text.{expanded}
use Rattle.tup_tupfile.specs.Kind.{Kind, Compares, Looks, Else, Endif, Complains, IncludesRules, Includes, Rules, Defines, Sets, kind_of}
use Rattle.tup_tupfile.specs.Setting.{assigned}
use Rattle.tup_tupfile.specs.Conditional.{compares, looked_up}
use Rattle.tup_tupfile.specs.Opening.{along, at_levels, opening}
use Rattle.tup_tupfile.specs.File.{held_in, included_file, lines_of, ended}
use Rattle.tup_rule_line.specs.RuleLine.{ruled}
use Rattle.tup_rule_line.specs.MacroLine.{defined}

-- how a file is read that another one includes, given its path and its content; none where too many are open
abbrev pub Opener : Type 0
Opener = Option (Names → State → Content → Reads ParseFault State)

-- a file that is included: it has to find room
unfoldable pub opened : Opener → Spot → State → Held → Reads ParseFault State
opened None at state held = refused at kind.TooDeep
opened (Some reads) at state held = reads held.path state held.content

-- `include`
unfoldable pub included : Opener → Spot → State → List ℕ → Reads ParseFault State
included opener at state text = and_then (included_file at state.variables text) (λ held. opened opener at state held)

-- `Tuprules.tup` in a folder, where there is one
unfoldable pub ruled_by : Opener → Spot → State → Names → Reads ParseFault State
ruled_by opener at state dir =
    and_then (held_in dir (codes "Tuprules.tup")) (λ found. elim found [ Some held ↦ opened opener at state held | None ↦ gives state ])

-- `Tuprules.tup` in the folders below a folder, down by names
unfoldable pub ruled_below : Opener → Spot → State → Names → Names → Reads ParseFault State
ruled_below opener at state dir [] = gives state
ruled_below opener at state dir (name ∷ names) =
    and_then (ruled_by opener at state (dir ++ name ∷ [])) (λ next. ruled_below opener at next (dir ++ name ∷ []) names)

-- `include_rules`: from the top down to the folder that is read
unfoldable pub ruled_down : Opener → Spot → State → Reads ParseFault State
ruled_down opener at state = and_then (ruled_by opener at state []) (λ next. ruled_below opener at next [] at.dir)

-- what a user says is wrong
unfoldable pub complained : Spot → Entries → List ℕ → Reads ParseFault State
complained at variables text = and_then (expanded at variables text) (λ said. refused at (kind.UserError said))

-- a line where the conditionals are on, but no conditional itself
unfoldable pub stated : Opener → Spot → State → Kind → Reads ParseFault State
stated opener at state (Complains text) = complained at state.variables text
stated opener at state IncludesRules = ruled_down opener at state
stated opener at state (Includes text) = included opener at state text
stated opener at state (Rules text) = ruled at state text
stated opener at state (Defines name body) = defined at state name body
stated opener at state (Sets name value) = assigned at state name value
stated opener at state _ = refused at kind.UnknownLine

-- a line that is no conditional: unread where the lines around it are off
unfoldable pub plain_line : Opener → Spot → Along → Kind → Reads ParseFault Along
plain_line opener at before line =
    if all_on before.levels then and_then (stated opener at before.state line) (λ next. gives (along before.levels next)) else gives before

-- one line
unfoldable pub with_kind : Opener → Spot → Along → Kind → Reads ParseFault Along
with_kind opener at before (Compares alike text) = opening at before (compares at before.state.variables alike text)
with_kind opener at before (Looks wanted name) = opening at before (looked_up at wanted name)
with_kind opener at before Else = at_levels at before.state (turned before.levels)
with_kind opener at before Endif = at_levels at before.state (left before.levels)
with_kind opener at before other = plain_line opener at before other

-- lines one after another
unfoldable pub with_lines : Opener → Names → Names → Along → List Line → Reads ParseFault State
with_lines opener dir file before [] = ended dir file before
with_lines opener dir file before (line ∷ more) =
    and_then (with_kind opener (spot dir file line.number) before (kind_of line.text))
    (λ next. with_lines opener dir file next more)

-- a file that is read for a folder
unfoldable pub with_file : Opener → Names → Names → State → Content → Reads ParseFault State
with_file opener dir file state content = and_then (lines_of dir file content) (λ all. with_lines opener dir file (along [] state) all)

-- the same, where so many more files may be open
unfoldable pub with_room : ℕ → Names → Names → State → Content → Reads ParseFault State
with_room zero dir = with_file None dir
with_room (suc room) dir = with_file (Some (with_room room dir)) dir

-- how a file is included where so many more may be open
unfoldable pub opener_of : ℕ → Names → Opener
opener_of zero dir = None
opener_of (suc room) dir = Some (with_room room dir)

-- the drafts of a Tupfile that was found; at most 64 files are open at once
unfoldable pub drafts_in : Names → Held → Reads ParseFault (List Draft)
drafts_in dir held = and_then (with_room 63 dir held.path fresh held.content) (λ state. gives state.drafts)

-- the drafts of a folder's Tupfile; a folder without one has no rules
unfoldable pub reading : Names → Reads ParseFault (List Draft)
reading dir = and_then (held_in dir (codes "Tupfile")) (λ found. elim found [ Some held ↦ drafts_in dir held | None ↦ gives [] ])
