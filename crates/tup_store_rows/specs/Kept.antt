-- A graph over a site in memory (own).
use Rattle.std.specs.Prelude.{IsTrue}
use Rattle.tup_site.specs.Memory.{world_in, moment_of, left_since}
use Rattle.tup_site.specs.declared.memory.MemSite.{MemSite}
use Rattle.tup_stored_graph.specs.Held.{Held, is_fresh, StandsFor}

-- a graph is fresh, and stands for the store of its site
abbrev pub Stands : Held → MemSite → Type 0
Stands graph site = IsTrue (is_fresh graph) × StandsFor world_in moment_of left_since graph site
