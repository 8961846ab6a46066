-- Assignments, from the manual; what is refused, and in which order, is own.
use Rattle.std.specs.Prelude.{ℕ, Bool, if◌then◌else◌, List, Some, None, is_some, Result}
use Rattle.tup_lex.specs.Blank.{trim}
use Rattle.tup_lex.specs.declared.kind.ParseKind.TheVariants.{BadName}
use Rattle.tup_vars.specs.Name.{is_free}
use Rattle.tup_vars.specs.Table.{Entries}
use Rattle.tup_vars.specs.Vars.{set_to, appending}
use Rattle.tup_vars.specs.declared.fault.VarFault.{VarFault}
use Rattle.tup_query.specs.declared.fault.ParseFault.{ParseFault}
use Rattle.tup_rule_line.specs.declared.state.State.{State}
use Rattle.tup_query.specs.Reads.{Reads, gives, and_then}
use Rattle.tup_rule_line.specs.Last.{before_last}
use Rattle.tup_query.specs.Spot.{Spot, refused}
use Rattle.tup_query.specs.Text.{var_kind, taken, expanded}

-- a text without a `:` or a `+` at its end
abbrev pub unmarked : List ℕ → List ℕ
unmarked left = elim (before_last 58 left) [ Some front ↦ front | None ↦ elim (before_last 43 left) [ Some front ↦ front | None ↦ left ] ]

-- the name before an `=`
abbrev pub set_name : List ℕ → List ℕ
set_name left = trim (unmarked left)

-- whether what is set goes on behind what was set before
abbrev pub goes_on : List ℕ → Bool
goes_on left = is_some (before_last 43 left)

-- the variables with one that is set, or that goes on behind its value
abbrev pub put_value : Entries → List ℕ → Bool → List ℕ → Result Entries VarFault
put_value variables name more value = if more then appending variables name value else set_to variables name value

-- the state with a variable
unfoldable pub with_value : Spot → State → List ℕ → Bool → List ℕ → Reads ParseFault State
with_value at state name more value =
    and_then (taken at var_kind (put_value state.variables name more value)) (λ variables. gives (record state { variables = variables }))

-- what a text stands for that is set to a name: the name's fault comes before those of the value
unfoldable pub value_of : Spot → Entries → List ℕ → List ℕ → Reads ParseFault (List ℕ)
value_of at variables name text = if is_free name then expanded at variables text else refused at BadName

-- an assignment
unfoldable pub assigned : Spot → State → List ℕ → List ℕ → Reads ParseFault State
assigned at state left right =
    and_then (value_of at state.variables (set_name left) (trim right)) (λ value. with_value at state (set_name left) (goes_on left) value)
