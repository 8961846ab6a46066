-- What a crash leaves of a graph while a list of edits is committed (own).
use Rattle.std.specs.Prelude.{◌⊎◌, ℕ, List, Option}
use Rattle.tup_path.specs.Name.{Names, Content}
use Rattle.tup_site.specs.Crash.{GoesOn, LeavesOnly}
use Rattle.tup_site.specs.World.{World, TreeStays}
use Rattle.tup_stamp.specs.declared.Stamp.{Stamp}
use Rattle.tup_rule.specs.declared.question.Reading.{Reading}
use Rattle.tup_rule.specs.declared.rule.Rule.{Rule}
use Rattle.tup_graph.specs.Graph.{GraphState}
use Rattle.tup_graph.specs.Scan.{IsScanned}
use Rattle.tup_graph.specs.Swap.{IsSwapped}
use Rattle.tup_stored_graph.specs.Crash.{IsStoreOf}

module _ (before : GraphState) (Is : GraphState → Type 0) where
  -- a world whose store has the graph before, or such a one
  abbrev pub HasEitherOf : World → Type 0
  HasEitherOf w = IsStoreOf before w.store ⊎ ((after : GraphState) × Is after × IsStoreOf after w.store)

  -- the commit leaves the tree as it is, and such a store
  pub record NoteStep (v w : World) : Type 0 where
    pub tree : TreeStays v w
    pub store : HasEitherOf w

-- Each world that a crash since the call began may leave has the graph before or such a one. For calls that began earlier: all
-- that this one adds to what a crash may leave is such a store beside a tree that a crash could leave before.
pub record LeavesNoted {S : Type 0} (moment : S → ℕ) (left_since : S → ℕ → World → Type 0) (old new : S) (before : GraphState) (Is : GraphState → Type 0) : Type 0 where
  pub only : LeavesOnly moment left_since old new (HasEitherOf before Is)
  pub on : GoesOn moment left_since old new (NoteStep before Is)

-- the graph before, or the one that a scan leaves which found these files and this in tup.config
abbrev pub LeavesScanned : {S : Type 0} → (S → ℕ) → (S → ℕ → World → Type 0) → S → S → GraphState → List (Names × Stamp) → Option Content → Type 0
LeavesScanned moment left_since old new before files config = LeavesNoted moment left_since old new before (IsScanned before files config)

-- the graph before, or the one that a swap to these readings and rules leaves
abbrev pub LeavesSwapped : {S : Type 0} → (S → ℕ) → (S → ℕ → World → Type 0) → S → S → GraphState → List (Names × Reading) → List Names → List Rule → Type 0
LeavesSwapped moment left_since old new before fresh gone rules = LeavesNoted moment left_since old new before (IsSwapped before fresh gone rules)
