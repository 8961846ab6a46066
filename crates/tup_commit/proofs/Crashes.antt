-- What a crash leaves while edits are committed.
use Rattle.std.proofs.Common.{ℕ, ⊎_elim, inl, inr}
use Rattle.tup_site.specs.World.{World}
use Rattle.tup_graph.specs.Graph.{GraphState}
use Rattle.tup_graph.specs.Opening.{IsGraphOf}
use Rattle.tup_table.specs.Table.{entries_in, StandsFor}
use Rattle.tup_table.specs.declared.table.Table.{Table}
use Rattle.tup_table.proofs.Going.{as_step}
use Rattle.tup_stored_graph.specs.Crash.{IsStoreOf, HasEither, GraphStep, LeavesEither}
use Rattle.tup_stored_graph.proofs.Crashes.{as_it_was}
use Rattle.tup_commit.specs.Crash.{HasEitherOf, NoteStep, LeavesNoted}

module _ {S : Type 0} (moment : S → ℕ) (left_since : S → ℕ → World → Type 0) (g after : GraphState) (Is : GraphState → Type 0) (also : (w : World) → IsStoreOf after w.store → HasEitherOf g Is w) where
  either : (w : World) → HasEither g after w → HasEitherOf g Is w
  either w has = ⊎_elim inl (also w) has

  pub noted : (old new : S) → LeavesEither moment left_since old new g after → LeavesNoted moment left_since old new g Is
  noted old new leaves = record {
    only = record {
      later = leaves.only.later;
      each = λ w left. either w (leaves.only.each w left);
      before = λ t w le left. ⊎_elim inl (λ has. inr (either w has)) (leaves.only.before t w le left);
    };
    on = as_step moment left_since old new (GraphStep g after) (NoteStep g Is) (λ v w left step. record { tree = step.tree; store = either w step.store }) leaves.on;
  }

module _ {S : Type 0} (world : S → World) (moment : S → ℕ) (left_since : S → ℕ → World → Type 0) (table : Table) (g : GraphState) (Is : GraphState → Type 0) where
  -- the edits are committed
  pub by_commit : (after : GraphState) → Is after → (old new : S) → LeavesEither moment left_since old new g after → LeavesNoted moment left_since old new g Is
  by_commit after is = noted moment left_since g after Is (λ w store. inr (after, is, store))

  -- nothing is done
  pub by_nothing : (old : S) → StandsFor world moment left_since table old → IsGraphOf (entries_in table) g → LeavesNoted moment left_since old old g Is
  by_nothing old stands is = noted moment left_since g g Is (λ w store. inl store) old old (as_it_was world moment left_since table g old stands is g)
