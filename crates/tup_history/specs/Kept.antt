-- What a crash leaves of a project between two turns: before it has begun, and once it has. Own.
use Rattle.std.specs.Prelude.{◌≡◌, []}
use Rattle.tup_site.specs.Memory.{world_in, store_in, known_in, moment_of, left_since}
use Rattle.tup_site.specs.declared.memory.MemSite.{MemSite}
use Rattle.tup_runner.specs.Next.{Next}
use Rattle.tup_ledger.specs.Sources.{IsDurable}
use Rattle.tup_graph.specs.Kept.{IsKeptSite}
use Rattle.tup_law_phases.specs.Language.{tupfiles}

-- the project hasn't begun: there is no store, and a crash now leaves what is there
pub record IsUnbegun (site : MemSite) : Type 0 where
  pub no_store : store_in site ≡ []
  pub durable : IsDurable (left_since site (moment_of site)) (world_in site)

-- The project is kept, where commands mean this: what its store says of its files holds, and so it is in each world that a crash
-- now may leave, which has the same sources.
abbrev pub IsKept : Next → MemSite → Type 0
IsKept next site = IsKeptSite next tupfiles (known_in site) (world_in site) (left_since site (moment_of site))

-- how far a project has come: it hasn't begun, or it has
pub data Stage : Type 0 where
  Unbegun : Stage
  Begun : Stage

-- and how it stands then
abbrev pub Stands : Next → Stage → MemSite → Type 0
Stands next Unbegun site = IsUnbegun site
Stands next Begun site = IsKept next site
