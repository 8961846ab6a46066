-- What the phases of an update leave that come before its rules are run (own).
use Rattle.std.specs.Prelude.{◌≡◌, ◌≢◌, ◌↔◌, ℕ, true, None, Some}
use Rattle.std.specs.FinMap as finite
use Rattle.tup_path.specs.Name.{Names}
use Rattle.tup_site.specs.World.{World}
use Rattle.tup_site.specs.declared.site.Site.{Ghosts as Site}
use Rattle.tup_runner.specs.Next.{Next}
use Rattle.tup_graph.specs.declared.owned.Owned.{Owned}
use Rattle.tup_graph.specs.Graph.{is_flagged}
use Rattle.tup_graph.specs.Reach.{stamp_in}
use Rattle.tup_stored_graph.specs.Held.{Held}
use Rattle.tup_ledger.specs.Sources.{sources_of}
use Rattle.tup_law_site.specs.Over.{IsKeptNow, StandsOver}
use Rattle.tup_law_phases.specs.Language.{tupfiles}
use Rattle.tup_promise.specs.Kept.{AsksFor, HaveTupfiles, OfGraph}
use Rattle.tup_promise.specs.Needed.{IsDue}

-- a graph over a site is up to date with the world that the update began with, and only rules are left to be run
pub record IsPrepared {S : Type 0} (site : Site S) (next : Next) (first : World) (since : ℕ) (graph : Held) (at : S) : Type 0 where
  -- the graph stands over the site, of which all is kept that a crash since the beginning may leave
  pub over : StandsOver site next tupfiles (site.known at) first since graph at
  -- so is the site as it is
  pub kept : IsKeptNow site next tupfiles (site.known at) at
  -- no folder is to be read, the graph has seen the files as they are, and each owned path is made by a rule
  pub created : graph.nodes.created ≡ finite.empty
  pub seen : (path : Names) → finite.get graph.nodes.seen path ≡ stamp_in (site.world at).tree path
  pub made : (path : Names) (owned : Owned) → finite.get graph.nodes.owned path ≡ Some owned → owned.maker ≢ None
  -- each folder of which a reading is kept has a Tupfile
  pub read : OfGraph first (λ was. HaveTupfiles (sources_of was first.tree) graph.nodes)
  -- the rules are those that the sources ask for, and just those that are due are flagged
  pub rules : AsksFor first graph.nodes.rules
  pub due : (number : ℕ) → (is_flagged graph.nodes number ≡ true) ↔ IsDue first graph.nodes.rules number
