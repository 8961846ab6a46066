-- A steady site: what it holds, and what a crash may leave of it, as the site in memory that it owns has it. It never fails.
use Rattle.std.specs.Prelude.{ℕ, ◌≤◌, List, length}
use Rattle.tup_path.specs.Name.{Content}
use Rattle.tup_path.specs.Tree.{Tree}
use Rattle.tup_site.specs.World.{World}
use Rattle.tup_site.specs.Memory as memory
use Rattle.tup_demo.specs.declared.steady.SteadySite.{SteadySite}

-- the files
abbrev pub tree_in : SteadySite → Tree
tree_in steady = memory.tree_in steady.site

-- the bytes of the store
abbrev pub store_in : SteadySite → List ℕ
store_in steady = memory.store_in steady.site

-- the files and the store
abbrev pub world_in : SteadySite → World
world_in steady = memory.world_in steady.site

-- the contents that ever stood in the tree
abbrev pub known_in : SteadySite → List Content
known_in steady = memory.known_in steady.site

-- how much happened so far
abbrev pub moment_of : SteadySite → ℕ
moment_of steady = memory.moment_of steady.site

-- a crash at some moment since t may leave this
abbrev pub left_since : SteadySite → ℕ → World → Type 0
left_since steady t w = memory.left_since steady.site t w

-- how often it failed
abbrev pub faults_of : SteadySite → ℕ
faults_of steady = 0

-- its store stays small
pub small_store : (steady : SteadySite) → length (store_in steady) ≤ 65536
small_store steady = steady.is_small
