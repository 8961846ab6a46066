-- What a crash leaves while files are cleared (own).
use Rattle.std.specs.Prelude.{◌≡◌, ◌⊎◌, ℕ, List}
use Rattle.tup_path.specs.Name.{Names}
use Rattle.tup_path.specs.Tree.{Tree}
use Rattle.tup_site.specs.Crash.{Follows, GoesOn}
use Rattle.tup_site.specs.World.{World, TreeStays}
use Rattle.tup_graph.specs.Graph.{GraphState}
use Rattle.tup_graph.specs.Transactions.{with_doomed, with_forgotten}
use Rattle.tup_stored_graph.specs.Crash.{IsStoreOf}
use Rattle.tup_stale.specs.Files.{without, SameBeside}

-- What a clearing of paths adds to what a crash may leave, with these files in this tree: the graph that was, beside the tree
-- as it was; the graph with doomed paths, beside that tree but for the files, which hold anything or are gone; or the graph
-- that forgot the paths, beside the present tree without the files.
module _ (g : GraphState) (paths files : List Names) (present : Tree) (v w : World) where
  -- nothing was done yet
  abbrev pub IsUntouched : Type 0
  IsUntouched = IsStoreOf g w.store × TreeStays v w

  -- the paths are doomed, and their files may be half gone
  abbrev pub IsDoomed : Type 0
  IsDoomed = IsStoreOf (with_doomed g paths) w.store × SameBeside files v.tree w.tree

  -- the files are gone, and the paths are forgotten
  abbrev pub IsForgotten : Type 0
  IsForgotten = IsStoreOf (with_forgotten g paths) w.store × (w.tree ≡ without present files)

  -- one of the three
  abbrev pub ClearStep : Type 0
  ClearStep = IsUntouched ⊎ IsDoomed ⊎ IsForgotten

-- Each world that a crash since the call began may leave comes by this step from one that a crash right before it may leave;
-- for calls that began earlier, that is all that this one adds.
pub record LeavesBy {S : Type 0} (moment : S → ℕ) (left_since : S → ℕ → World → Type 0) (old new : S) (step : World → World → Type 0) : Type 0 where
  pub only : (w : World) → left_since new (moment old) w → Follows step (left_since old (moment old)) w
  pub on : GoesOn moment left_since old new step
