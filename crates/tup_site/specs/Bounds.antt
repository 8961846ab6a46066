-- The lengths that a store may have after a crash, as they are worked out from the list of changes. Own.
use Rattle.std.specs.Prelude.{◌≡◌, ◌-◌, ◌^◌, min, length}
use Rattle.tup_site.specs.State.{State}
use Rattle.tup_site.specs.declared.unsettled.Bounds.{Bounds}

-- each is that of a state; it stands still at the last value of its type
pub record IsBounds (state : State) (bounds : Bounds) : Type 0 where
  pub lowest : bounds.floor ≡ min state.floor (2 ^ 64 - 1)
  pub highest : bounds.height ≡ min state.height (2 ^ 64 - 1)
  pub now : bounds.len ≡ min (length state.world.store) (2 ^ 64 - 1)
