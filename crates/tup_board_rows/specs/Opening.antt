-- Graphs over which a board may be made (own).
use Rattle.std.specs.Prelude.{◌≡◌, IsTrue}
use Rattle.std.specs.FinMap as finite
use Rattle.std.specs.Option.{option_map}
use Rattle.tup_path.specs.Name.{Names}
use Rattle.tup_path.specs.Tree.{Tree}
use Rattle.tup_stamp.specs.Stamp.{stamp}
use Rattle.tup_site.specs.declared.site.Site.{Ghosts as Site}
use Rattle.tup_graph.specs.Graph.{GraphState}
use Rattle.tup_stored_graph.specs.Held.{Held, StandsFor, is_fresh}

-- the stamps that a graph has seen are those of a tree
abbrev pub HasSeen : GraphState → Tree → Type 0
HasSeen g tree = (path : Names) → finite.get g.seen path ≡ option_map stamp (finite.get tree path)

-- a graph is fresh, stands for the store of a site, and has seen its files
pub record IsReady {S : Type 0} (site : Site S) (graph : Held) (over : S) : Type 0 where
  pub fresh : IsTrue (is_fresh graph)
  pub stands : IsTrue site.tells → StandsFor site.world site.moment site.left_since graph over
  pub seen : IsTrue site.tells → HasSeen graph.nodes (site.world over).tree
