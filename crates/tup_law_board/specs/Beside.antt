-- What stays of a site while a board works on it (own).
use Rattle.std.specs.Prelude.{◌≡◌, Some}
use Rattle.std.specs.FinMap as finite
use Rattle.tup_path.specs.Name.{Names}
use Rattle.tup_site.specs.World.{World}
use Rattle.tup_graph.specs.declared.owned.Owned.{Owned}
use Rattle.tup_graph.specs.Graph.{GraphState}
use Rattle.tup_graph.specs.Kept.{HoldsItsOwn, file_beside}

-- a world with this graph has the sources of one that was there first, and holds its own as that one did
pub record StaysBeside (first : World) (was : GraphState) (world : World) (g : GraphState) : Type 0 where
  pub sources : (path : Names) → file_beside world g path ≡ file_beside first was path
  pub own : (path : Names) (owned : Owned) → finite.get g.owned path ≡ Some owned → HoldsItsOwn first world path owned
