-- How far the epoch of a site is. Own.
use Rattle.std.specs.Prelude.{Bool, true, false}
use Rattle.tup_fs.specs.declared.state.State.{State}
use Rattle.tup_fs.specs.declared.state.State.TheVariants.{Closed, Open, Lost}

-- whether an epoch is open
abbrev pub is_open : State → Bool
is_open Closed = false
is_open (Open epoch) = true
is_open Lost = false
