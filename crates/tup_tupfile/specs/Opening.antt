-- The conditional lines of a file, from the manual; that one which is off isn't read is own.
use Rattle.std.specs.Prelude.{Bool, false, if◌then◌else◌, List, Result}
use Rattle.tup_vars.specs.declared.branches.Level.{Level}
use Rattle.tup_vars.specs.declared.fault.VarFault.{VarFault}
use Rattle.tup_vars.specs.Branches.{entered, all_on}
use Rattle.tup_query.specs.declared.fault.ParseFault.{ParseFault}
use Rattle.tup_tupfile.specs.declared.opening.Along.{Along}
use Rattle.tup_rule_line.specs.declared.state.State.{State}
use Rattle.tup_query.specs.Reads.{Reads, gives, and_then}
use Rattle.tup_query.specs.Spot.{Spot}
use Rattle.tup_query.specs.Text.{var_kind, taken}

-- the levels of the conditionals of a file, and the state
abbrev pub along : List Level → State → Along
along levels state = record { levels = levels; state = state }

-- levels after a conditional line, which leaves the state as it is
unfoldable pub at_levels : Spot → State → Result (List Level) VarFault → Reads ParseFault Along
at_levels at state levels = and_then (taken at var_kind levels) (λ next. gives (along next state))

-- a conditional that is opened: off, and unread, where the lines around it are off
unfoldable pub opening : Spot → Along → Reads ParseFault Bool → Reads ParseFault Along
opening at before test =
    and_then (if all_on before.levels then test else gives false) (λ on. at_levels at before.state (entered before.levels at.line on))
