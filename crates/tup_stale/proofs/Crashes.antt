-- What a crash leaves while files are cleared, by what it leaves of the parts.
use Rattle.std.proofs.Common.{◌≡◌, ◌⊎◌, ℕ, List, inl, inr, ⊎_elim, refl, sym, ap, subst, ◌∙◌}
use Rattle.tup_path.specs.Name.{Names}
use Rattle.tup_path.specs.Tree.{Tree}
use Rattle.tup_site.specs.Crash.{GoesOn}
use Rattle.tup_site.specs.World.{World, TreeStays}
use Rattle.tup_table.specs.Table.{entries_in, StandsFor}
use Rattle.tup_table.specs.declared.table.Table.{Table}
use Rattle.tup_table.proofs.Going.{IsEarlier, as_step}
use Rattle.tup_graph.specs.Graph.{GraphState}
use Rattle.tup_graph.specs.Opening.{IsGraphOf}
use Rattle.tup_graph.specs.Transactions.{with_doomed, with_forgotten}
use Rattle.tup_stored_graph.specs.Crash.{IsStoreOf, GraphStep, LeavesEither}
use Rattle.tup_stored_graph.proofs.Crashes.{as_it_was}
use Rattle.tup_stale.specs.Crash.{IsUntouched, IsDoomed, IsForgotten, ClearStep, LeavesBy}
use Rattle.tup_stale.specs.Files.{without, SameBeside, FilesStep}
use Rattle.tup_stale.proofs.Forgotten.{doomed_then_forgotten}
use Rattle.tup_stale.proofs.Going.{then_by, leaves_by}
use Rattle.tup_stale.proofs.Removals.{beside_same, beside_then}

module _ {S : Type 0} (world : S → World) (moment : S → ℕ) (left_since : S → ℕ → World → Type 0) where
  -- a crash now leaves stores of the graph that stands for the store
  pub stores_now : (table : Table) (h : GraphState) (site : S) → StandsFor world moment left_since table site → IsGraphOf (entries_in table) h
      → (w : World) → left_since site (moment site) w → IsStoreOf h w.store
  stores_now table h site stands is w left = ⊎_elim (λ store. store) (λ store. store) ((as_it_was world moment left_since table h site stands is h).only.each w left)

  -- what a crash may leave since a moment at which the graph stands for the store
  pub leaves_since : (table : Table) (h : GraphState) (old new : S) (paths files : List Names) (present : Tree) → StandsFor world moment left_since table old → IsGraphOf (entries_in table) h
      → GoesOn moment left_since old new (ClearStep h paths files present) → LeavesBy moment left_since old new (ClearStep h paths files present)
  leaves_since table h old new paths files present stands is on =
      leaves_by moment left_since old new (ClearStep h paths files present) (λ w left. inl (stores_now table h old stands is w left, refl)) on

module _ {S : Type 0} (moment : S → ℕ) (left_since : S → ℕ → World → Type 0) (g : GraphState) (paths files : List Names) (present : Tree) where
  abbrev Step : World → World → Type 0
  Step v w = ClearStep g paths files present v w

  -- what is left up to the settle
  abbrev Half : World → World → Type 0
  Half v w = IsUntouched g paths files present v w ⊎ IsDoomed g paths files present v w

  -- what the last commit adds
  abbrev Last : World → World → Type 0
  Last v w = TreeStays v w × (IsStoreOf (with_doomed g paths) w.store ⊎ IsForgotten g paths files present v w)

  half_of : (v w : World) → GraphStep g (with_doomed g paths) v w → Half v w
  half_of v w step = ⊎_elim (λ was. inl (was, step.tree)) (λ doomed. inr (doomed, beside_same files v.tree w.tree step.tree)) step.store

  step_of : (v w : World) → Half v w → Step v w
  step_of v w half = ⊎_elim inl (λ doomed. inr (inl doomed)) half

  last_of : (v w : World) → Last v w → Step v w
  last_of v w last = ⊎_elim (λ doomed. inr (inl (doomed, beside_same files v.tree w.tree last.0))) (λ forgotten. inr (inr forgotten)) last.1

  -- ---- the paths are doomed
  pub dooms : (old new : S) → LeavesEither moment left_since old new g (with_doomed g paths) → GoesOn moment left_since old new Step
  dooms old new leaves = as_step moment left_since old new (GraphStep g (with_doomed g paths)) Step (λ v w left step. step_of v w (half_of v w step)) leaves.on

  -- ---- and files are removed
  module _ (old mid new : S) (earlier : IsEarlier moment left_since mid) (doom : LeavesEither moment left_since old mid g (with_doomed g paths))
      (stores : (v : World) → left_since mid (moment mid) v → IsStoreOf (with_doomed g paths) v.store) (remove : GoesOn moment left_since mid new (FilesStep files)) where
    half : GoesOn moment left_since old new Half
    half =
        then_by moment left_since old mid new (GraphStep g (with_doomed g paths)) (IsDoomed g paths files present) Half earlier half_of (λ v w doomed. inr doomed)
        (λ u v w first doomed. inr (doomed.0, beside_then files u.tree v.tree w.tree (beside_same files u.tree v.tree first.tree) doomed.1)) doom.on
        (as_step moment left_since mid new (FilesStep files) (IsDoomed g paths files present)
        (λ v w left step. (subst (IsStoreOf (with_doomed g paths)) (sym step.store) (stores v left), step.others)) remove)

    pub removes : GoesOn moment left_since old new Step
    removes = as_step moment left_since old new Half Step (λ v w left step. step_of v w step) half

    -- ---- and the paths are forgotten
    module _ (end : S) (done : IsEarlier moment left_since new) (gone : (v : World) → left_since new (moment new) v → v.tree ≡ without present files) (h : GraphState) (is : h ≡ with_doomed g paths)
        (forget : LeavesEither moment left_since new end h (with_forgotten h paths)) where
      last : GoesOn moment left_since new end Last
      last = as_step moment left_since new end (GraphStep h (with_forgotten h paths)) Last (λ v w left step. (
        step.tree,
        ⊎_elim (λ doomed. inl (subst (λ (k : GraphState). IsStoreOf k w.store) is doomed))
            (λ forgotten. inr (subst (λ (k : GraphState). IsStoreOf k w.store) (ap (λ (k : GraphState). with_forgotten k paths) is ∙ doomed_then_forgotten g paths) forgotten, step.tree ∙ gone v left)) step.store,
      )) forget.on

      pub forgets : GoesOn moment left_since old end Step
      forgets =
          then_by moment left_since old new end Half Last Step done step_of last_of
          (λ u v w first then.
          ⊎_elim (λ doomed. inr (inl (doomed, beside_then files u.tree v.tree w.tree (beside_half u v first) (beside_same files v.tree w.tree then.0)))) (λ forgotten. inr (inr forgotten)) then.1)
          half last
        where
          beside_half : (u v : World) → Half u v → SameBeside files u.tree v.tree
          beside_half u v first = ⊎_elim (λ was. beside_same files u.tree v.tree was.1) (λ doomed. doomed.1) first
