-- What a store lists, by the graph that it stands for.
use Rattle.std.proofs.Common.{◌≡◌, ◌⊎◌, ◌++◌, ℕ, List, [], IsTrue, Result, Ok, Err, inl, inr, ⊎_elim, refl, sym, ap, subst, ◌∙◌}
use Rattle.std.specs.Result.{IfOk}
use Rattle.tup_path.specs.Name.{Names}
use Rattle.tup_site.specs.Crash.{GoesOn, NoStep, LeavesOnly, PinsTree}
use Rattle.tup_site.specs.World.{World}
use Rattle.tup_table.specs.Entries.{Standing}
use Rattle.tup_table.specs.Images.{Leaves, OpenStep}
use Rattle.tup_table.specs.Table.{entries_in, StandsFor}
use Rattle.tup_table.specs.declared.table.Table.{Table}
use Rattle.tup_table.proofs.Going.{IsEarlier, as_step, nothing_then}
use Rattle.tup_table.proofs.Stores.{not_empty}
use Rattle.tup_graph.specs.Graph.{GraphState}
use Rattle.tup_graph.specs.Opening.{IsGraphOf}
use Rattle.tup_graph.specs.declared.fault.GraphFault.{GraphFault}
use Rattle.tup_stored_graph.specs.Crash.{GraphStep, HasEither, LeavesEither}
use Rattle.tup_stored_graph.specs.Held.{Held, is_fresh}
use Rattle.tup_ledger.specs.Listing.{Lists, ListsEither, StillLists, SettledStep}
use Rattle.tup_ledger.specs.Owned.{owned_in}
use Rattle.tup_ledger.specs.Sources.{Guards, HasSources, Kept}
use Rattle.tup_ledger.proofs.Guarding.{entries_one, guards_now, one_store, stored}

pub lists_one : (bytes : List ℕ) (one other : List Names) → Lists bytes one → Lists bytes other → one ≡ other
lists_one bytes one other first second = first.owned ∙ ap owned_in (one_store bytes first.graph second.graph first.store second.store) ∙ sym second.owned

pub nothing_lists : (paths : List Names) → ¬ Lists [] paths
nothing_lists paths lists = not_empty lists.store.leaves.0 lists.store.leaves.1

-- ---- bytes that leave the same entries
carried : (before after : List ℕ) (entries : Standing) → Leaves entries before → Leaves entries after → (paths : List Names) → Lists before paths → Lists after paths
carried before after entries was is paths lists = record {
  graph = lists.graph;
  store = record {
    entries = entries;
    leaves = is;
    stands = subst (λ (es : Standing). IsGraphOf es lists.graph) (entries_one before lists.store.entries entries lists.store.leaves was) lists.store.stands;
  };
  owned = lists.owned;
}

pub opened_still : (v w : World) → OpenStep v w → StillLists v.store w.store
opened_still v w step = λ paths. (carried v.store w.store step.entries step.before step.after paths, carried w.store v.store step.entries step.after step.before paths)

pub still_lists : (v w : World) → (w ≡ v) ⊎ OpenStep v w → StillLists v.store w.store
still_lists v w how =
    ⊎_elim (λ same. subst (λ (u : World). StillLists v.store u.store) (sym same) (λ paths. ((λ lists. lists), λ lists. lists))) (opened_still v w) how

-- ---- a site whose store a table stands for
module _ {S : Type 0} (world : S → World) (moment : S → ℕ) (left_since : S → ℕ → World → Type 0) (site : S) (present : left_since site (moment site) (world site)) where
  pub lists_now : (table : Table) (g : GraphState) → StandsFor world moment left_since table site → IsGraphOf (entries_in table) g → Lists (world site).store (owned_in g)
  lists_now table g stands is = record { graph = g; store = stored world moment left_since table g site stands is (world site) present; owned = refl }

  -- it was opened
  pub opened_lists : (result : Result Held GraphFault) → IfOk result (λ h. IsTrue (is_fresh h) × IsGraphOf (entries_in h.table) h.nodes) → IfOk result (λ h. StandsFor world moment left_since h.table site)
      → IfOk result (λ h. Lists (world site).store (owned_in h.nodes))
  opened_lists (Ok graph) is stands = lists_now graph.table graph.nodes stands is.1
  opened_lists (Err fault) is stands = tt

  pub opened_guards : (kept : Kept) (old : S) (result : Result Held GraphFault) → IsEarlier moment left_since site → LeavesOnly moment left_since old site (HasSources kept)
      → IfOk result (λ h. IsTrue (is_fresh h) × IsGraphOf (entries_in h.table) h.nodes) → IfOk result (λ h. StandsFor world moment left_since h.table site)
      → IfOk result (λ h. Guards (left_since site (moment site)) h.nodes kept)
  opened_guards kept old (Ok graph) earlier only is stands = guards_now world moment left_since graph.table graph.nodes site stands is.1 kept old earlier present only
  opened_guards kept old (Err fault) earlier only is stands = tt

-- ---- a commit
-- the graph before it lists these paths, and the one after it those
pub either_lists : (g h : GraphState) (after : List Names) → owned_in h ≡ after → (w : World) → HasEither g h w → ListsEither (owned_in g) after w.store
either_lists g h after same w has =
    ⊎_elim (λ store. inl (record { graph = g; store = store; owned = refl })) (λ store. inr (record { graph = h; store = store; owned = sym same })) has

-- what is there, however it ended, is among what a crash may leave
module _ {S : Type 0} (world : S → World) (moment : S → ℕ) (left_since : S → ℕ → World → Type 0) (old new : S) (earlier : IsEarlier moment left_since new) (present : left_since new (moment new) (world new)) where
  pub committed_lists : (g h : GraphState) (after : List Names) → owned_in h ≡ after → LeavesEither moment left_since old new g h → ListsEither (owned_in g) after (world new).store
  committed_lists g h after same leaves =
      either_lists g h after same (world new) (leaves.only.each (world new) (earlier (moment old) (moment new) (world new) leaves.only.later present))

-- ---- files that were settled before the store was written
module _ {S : Type 0} (world : S → World) (moment : S → ℕ) (left_since : S → ℕ → World → Type 0) (now : World) where
  pub settled_not : (old new : S) → GoesOn moment left_since old new NoStep → GoesOn moment left_since old new (SettledStep now)
  settled_not old new on = as_step moment left_since old new NoStep (SettledStep now) (λ v w left none. absurd none) on

  pub settled_first : (old mid new : S) (g h : GraphState) → IsEarlier moment left_since mid → world mid ≡ now → GoesOn moment left_since old mid NoStep → PinsTree (left_since mid (moment mid)) (world mid)
      → LeavesEither moment left_since mid new g h → GoesOn moment left_since old new (SettledStep now)
  settled_first old mid new g h earlier same quiet pins leaves =
      nothing_then moment left_since old mid new (SettledStep now) earlier quiet
      (as_step moment left_since mid new (GraphStep g h) (SettledStep now)
      (λ v w left step. (step.tree, step.tree ∙ pins v left ∙ ap (λ (u : World). u.tree) same)) leaves.on)
