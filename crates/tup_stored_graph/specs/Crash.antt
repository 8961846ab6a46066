-- What a crash leaves of a graph (own).
use Rattle.std.specs.Prelude.{◌⊎◌, ℕ, List}
use Rattle.tup_site.specs.Crash.{GoesOn, LeavesOnly}
use Rattle.tup_site.specs.World.{World, TreeStays}
use Rattle.tup_table.specs.Entries.{Standing}
use Rattle.tup_table.specs.Images.{Leaves}
use Rattle.tup_graph.specs.Graph.{GraphState}
use Rattle.tup_graph.specs.Opening.{IsGraphOf}

-- the bytes are a store whose entries stand for this graph
pub record IsStoreOf (graph : GraphState) (bytes : List ℕ) : Type 0 where
  pub entries : Standing
  pub leaves : Leaves entries bytes
  pub stands : IsGraphOf entries graph

-- a world whose store has the graph before or the one after
abbrev pub HasEither : GraphState → GraphState → World → Type 0
HasEither before after w = IsStoreOf before w.store ⊎ IsStoreOf after w.store

-- a transaction leaves the tree as it is, and a store of the graph before or of the one after
pub record GraphStep (before after : GraphState) (v w : World) : Type 0 where
  pub tree : TreeStays v w
  pub store : HasEither before after w

-- Each world that a crash since the call began may leave has the graph before or the one after. For
-- calls that began earlier: all that this one adds to what a crash may leave is such a store beside
-- a tree that a crash could leave before.
pub record LeavesEither {S : Type 0} (moment : S → ℕ) (left_since : S → ℕ → World → Type 0) (old new : S) (before after : GraphState) : Type 0 where
  pub only : LeavesOnly moment left_since old new (HasEither before after)
  pub on : GoesOn moment left_since old new (GraphStep before after)
