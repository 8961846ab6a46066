-- Which files are sources, and what a crash leaves of them (own).
-- Which paths may be owned is a test, so that it can be said of any.
use Rattle.std.specs.Prelude.{◌≡◌, ℕ, Bool, true, false, not, List, None, All}
use Rattle.std.specs.FinMap as finite
use Rattle.tup_path.specs.Name.{Names}
use Rattle.tup_path.specs.Tree.{Tree}
use Rattle.tup_site.specs.Crash.{LeavesOnly}
use Rattle.tup_site.specs.World.{World, StoreStays}
use Rattle.tup_graph.specs.Graph.{GraphState, is_owned}
use Rattle.tup_stored_graph.specs.Crash.{IsStoreOf}

-- the sources of a tree: the files that a graph doesn't own
abbrev pub sources_of : GraphState → Tree → Tree
sources_of g tree = finite.retain_keys tree (λ path. not (is_owned g path))

-- no file stands at some paths
abbrev pub HaveNoFiles : Tree → List Names → Type 0
HaveNoFiles tree paths = All (λ path. finite.get tree path ≡ None) paths

-- a graph owns only paths that pass a test
abbrev pub OwnsOnly : (Names → Bool) → GraphState → Type 0
OwnsOnly may g = (path : Names) → is_owned g path ≡ true → may path ≡ true

-- what is kept whenever a crash comes: the sources, and that only such paths are owned
pub record Kept : Type 0 where
  pub sources : Tree
  pub may : Names → Bool

-- a world whose store reads, and that keeps these sources: every other file is owned
pub record HasSources (kept : Kept) (w : World) : Type 0 where
  pub graph : GraphState
  pub store : IsStoreOf graph w.store
  pub sources : sources_of graph w.tree ≡ kept.sources
  pub only : OwnsOnly kept.may graph

-- beside what a graph owns, each tree that a crash may leave has these sources
pub record Guards (left : World → Type 0) (g : GraphState) (kept : Kept) : Type 0 where
  pub each : (w : World) → left w → sources_of g w.tree ≡ kept.sources
  pub only : OwnsOnly kept.may g

-- a crash leaves just this world
abbrev pub IsDurable : (World → Type 0) → World → Type 0
IsDurable left now = (w : World) → left w → w ≡ now

-- what the change of files at owned paths adds to what a crash may leave
pub record OwnedStep (g : GraphState) (v w : World) : Type 0 where
  pub others : (path : Names) → is_owned g path ≡ false → finite.get w.tree path ≡ finite.get v.tree path
  pub store : StoreStays v w

-- From old to new a crash leaves only worlds that keep these sources; and where the graph is fresh, it guards them.
pub record KeepsSources {S : Type 0} (moment : S → ℕ) (left_since : S → ℕ → World → Type 0) (old new : S) (kept : Kept) (fresh : Type 0) (g : GraphState) : Type 0 where
  pub images : LeavesOnly moment left_since old new (HasSources kept)
  pub guards : fresh → Guards (left_since new (moment new)) g kept
