-- What conditionals test, from the manual; the bracket at the line's end and the first comma are own.
-- The test (its text, and what it asks) comes before the fault that too many conditionals are open at the same line.
-- In lines that are off a conditional is counted, and its text isn't read.
use Rattle.std.specs.Prelude.{ℕ, Bool, if◌then◌else◌, List, Option, Some, None, option_and_then, is_some, bytes_eq, not, codes}
use Rattle.tup_lex.specs.declared.kind.ParseKind.TheVariants.{Unclosed, BadName}
use Rattle.tup_vars.specs.Name.{is_name}
use Rattle.tup_vars.specs.Config.{around, behind}
use Rattle.tup_vars.specs.Table.{Entries}
use Rattle.tup_query.specs.declared.fault.ParseFault.{ParseFault}
use Rattle.tup_query.specs.Reads.{Reads, gives, and_then}
use Rattle.tup_query.specs.Ask.{setting_of}
use Rattle.tup_rule_line.specs.Last.{before_last}
use Rattle.tup_query.specs.Spot.{Spot, refused}
use Rattle.tup_query.specs.Text.{expanded}

-- what stands in a bracket that begins and ends a text
abbrev pub bracketed : List ℕ → Option (List ℕ)
bracketed text = option_and_then (before_last 41) (behind (codes "(") text)

-- the two sides of `(LEFT,RIGHT)`
abbrev pub sides : List ℕ → Option (List ℕ × List ℕ)
sides text = option_and_then (around 44) (bracketed text)

-- whether one truth is the other
abbrev pub agrees : Bool → Bool → Bool
agrees wanted found = if wanted then found else not found

-- whether two texts stand for the same, or for different ones where that is wanted
unfoldable pub compared : Spot → Entries → Bool → List ℕ → List ℕ → Reads ParseFault Bool
compared at variables alike left right =
    and_then (expanded at variables left) (λ one. and_then (expanded at variables right) (λ other. gives (agrees alike (bytes_eq one other))))

-- `ifeq` and `ifneq`
unfoldable pub compares : Spot → Entries → Bool → List ℕ → Reads ParseFault Bool
compares at variables alike text = elim (sides text) [ Some (left, right) ↦ compared at variables alike left right | None ↦ refused at Unclosed ]

-- `ifdef` and `ifndef`: whether tup.config sets a name, or doesn't where that is wanted
unfoldable pub looked_up : Spot → Bool → List ℕ → Reads ParseFault Bool
looked_up at wanted name =
    if is_name name then and_then (setting_of name) (λ value. gives (agrees wanted (is_some value))) else refused at BadName
