-- What a clearing leaves of a graph and of the files (own). It dooms the paths, removes the files that stand there,
-- settles, and forgets the paths.
use Rattle.std.specs.Prelude.{◌≡◌, ◌≢◌, ◌⊎◌, ℕ, Bool, List, None, Some, All, IsTrue, Result, Ok, Err}
use Rattle.std.specs.FinMap as finite
use Rattle.tup_path.specs.Name.{Names}
use Rattle.tup_site.specs.Crash.{GoesOn, NoStep}
use Rattle.tup_site.specs.World.{World, TreeStays}
use Rattle.tup_graph.specs.Graph.{GraphState}
use Rattle.tup_graph.specs.Transactions.{doom_edits, with_doomed, forget_edits, with_forgotten}
use Rattle.tup_graph.specs.declared.owned.Owned.{Owned}
use Rattle.tup_stored_graph.specs.Held.{Held}
use Rattle.tup_stored_graph.specs.Transaction.{after, IsFull, IsLost}
use Rattle.tup_stale.specs.Files.{without, IsPart}
use Rattle.tup_stale.specs.Unmade.{HasNoUsers}
use Rattle.tup_stale.specs.declared.fault.StaleFault.{StaleFault}
use Rattle.tup_stale.specs.declared.fault.StaleFault.TheVariants.{UserFile, Site, TooLarge, Full, Memory}

-- a graph whose files at these paths are to go
abbrev pub doomed : Held → List Names → Held
doomed graph paths = after graph (doom_edits graph.nodes paths) (with_doomed graph.nodes paths)

-- a graph that owns these paths no longer, and sees no files there
abbrev pub forgotten : Held → List Names → Held
forgotten graph paths = after (doomed graph paths) (forget_edits (with_doomed graph.nodes paths) paths) (with_forgotten graph.nodes paths)

-- the store has no room for the commit that dooms
abbrev pub CannotDoom : Held → List Names → Type 0
CannotDoom graph paths = IsFull graph (doom_edits graph.nodes paths)

-- nor, once it dooms, for the one that forgets
abbrev pub CannotForget : Held → List Names → Type 0
CannotForget graph paths = IsFull (doomed graph paths) (forget_edits (with_doomed graph.nodes paths) paths)

-- every owned path has a rule that makes it
abbrev pub AllAreMade : GraphState → Type 0
AllAreMade g = (path : Names) (owned : Owned) → finite.get g.owned path ≡ Some owned → owned.maker ≢ None

-- How far a clearing of some paths came, at which these files stand: the graph before it and now, and where the site tells
-- them, the worlds.
module _ (tells : Bool) (paths files : List Names) (old new : Held) (v w : World) where
  -- nothing is done yet
  abbrev pub AtFirst : Type 0
  AtFirst = (new ≡ old) × (IsTrue tells → w ≡ v)

  -- the files are being removed: the paths are doomed
  abbrev pub Removing : Type 0
  Removing = (new ≡ doomed old paths) × (IsTrue tells → IsPart files v.tree w.tree)

  -- all files are gone, and the paths are still doomed
  abbrev pub Removed : Type 0
  Removed = (new ≡ doomed old paths) × (IsTrue tells → w.tree ≡ without v.tree files)

  -- the commit that dooms failed under way
  abbrev pub Dooming : Type 0
  Dooming = IsLost (doom_edits old.nodes paths) old new × (IsTrue tells → TreeStays v w)

  -- the files are gone, and the commit that forgets failed under way
  abbrev pub Forgetting : Type 0
  Forgetting = IsLost (forget_edits (with_doomed old.nodes paths) paths) (doomed old paths) new × (IsTrue tells → w.tree ≡ without v.tree files)

  -- one of the two commits failed under way: its store is opened again
  abbrev pub Committing : Type 0
  Committing = Dooming ⊎ Forgetting

  -- all is done, and there was room for both commits
  abbrev pub AtLast : Type 0
  AtLast = (new ≡ forgotten old paths) × (IsTrue tells → w.tree ≡ without v.tree files) × (CannotDoom old paths → ⊥) × (CannotForget old paths → ⊥)

  -- what it leaves, by its answer
  abbrev pub Leaves : {T : Type 0} → Result T StaleFault → Type 0
  Leaves (Ok value) = AtLast
  Leaves (Err (UserFile path written found)) = AtFirst
  Leaves (Err (TooLarge bytes)) = AtFirst
  Leaves (Err Full) = (CannotDoom old paths × AtFirst) ⊎ (CannotForget old paths × Removed)
  Leaves (Err Site) = AtFirst ⊎ Removing ⊎ Committing
  Leaves (Err Memory) = AtFirst ⊎ Removing ⊎ Committing

-- A file of the user's is spared: none stands at these paths, or the graph, the world and what a crash may leave are what they
-- were.
abbrev pub SparesUsers : {S : Type 0} → (S → World) → (S → ℕ) → (S → ℕ → World → Type 0) → List Names → Held → Held → S → S → Type 0
SparesUsers world moment left_since paths old new before now =
    All (HasNoUsers old.nodes (world before).tree) paths ⊎ ((new ≡ old) × (world now ≡ world before) × GoesOn moment left_since before now NoStep)
