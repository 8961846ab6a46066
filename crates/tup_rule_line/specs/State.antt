-- What the lines of a Tupfile before a line have set (own).
pub use Rattle.tup_rule_line.specs.Making.{made_by, is_made}
use Rattle.std.specs.Prelude.{[]}
use Rattle.tup_rule_line.specs.declared.state.State.{State}

-- the state before the first line
abbrev pub fresh : State
fresh = record { variables = []; macros = []; bins = []; drafts = [] }
