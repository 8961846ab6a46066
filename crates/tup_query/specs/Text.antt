-- What a text stands for where it stands, from the manual: variables, and settings, which are asked in order first (own).
-- All settings of a text are asked before it is expanded, also those after a place at which it is refused.
use Rattle.std.specs.Prelude.{ℕ, if◌then◌else◌, List, [], ◌∷◌, Option, None, Result, Ok, Err, bytes_eq}
use Rattle.tup_lex.specs.declared.kind.ParseKind.{ParseKind}
use Rattle.tup_lex.specs.declared.kind.ParseKind.TheVariants as kind
use Rattle.tup_vars.specs.declared.fault.VarFault.{VarFault}
use Rattle.tup_vars.specs.declared.fault.VarFault.TheVariants as fault
use Rattle.tup_vars.specs.Asked.{setting_names}
use Rattle.tup_vars.specs.Table.{Entries}
use Rattle.tup_vars.specs.Expand.{scope, expansion}
use Rattle.tup_query.specs.declared.fault.ParseFault.{ParseFault}
use Rattle.tup_query.specs.Reads.{Reads, gives, and_then}
use Rattle.tup_query.specs.Ask.{Settings, settings_of}
use Rattle.tup_query.specs.Spot.{Spot, refused, cwd}

-- what a refusal of variables or conditionals is called
abbrev pub var_kind : VarFault → ParseKind
var_kind fault.Unclosed = kind.Unclosed
var_kind fault.StrayElse = kind.StrayElse
var_kind fault.StrayEndif = kind.StrayEndif
var_kind (fault.MissingEndif line) = kind.MissingEndif
var_kind fault.BadName = kind.BadName
var_kind fault.TooLong = kind.LineTooLong
var_kind fault.TooDeep = kind.TooDeep
var_kind _ = kind.UnknownLine

-- the value of a name among those that were asked
abbrev pub value_among : Settings → List ℕ → Option (List ℕ)
value_among [] name = None
value_among ((asked, value) ∷ more) name = if bytes_eq name asked then value else value_among more name

-- the end with what a call gave, or with its refusal
unfoldable pub taken : {A E : Type 0} → Spot → (E → ParseKind) → Result A E → Reads ParseFault A
taken at called (Ok value) = gives value
taken at called (Err fault) = refused at (called fault)

-- what a text stands for, given the variables
unfoldable pub expanded : Spot → Entries → List ℕ → Reads ParseFault (List ℕ)
expanded at variables text =
    and_then (settings_of [] (setting_names text)) (λ values. taken at var_kind (expansion (scope variables (cwd at) (value_among values)) text))
