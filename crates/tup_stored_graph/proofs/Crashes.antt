-- What a crash leaves of a graph, by what it leaves of its table.
use Rattle.std.proofs.Common.{◌≡◌, ℕ, List, ⊎_elim, inl, inr, sym, subst, arith}
use Rattle.tup_site.specs.Crash.{GoesOn}
use Rattle.tup_site.specs.World.{World}
use Rattle.tup_table.specs.Entries.{Standing, IsAscending, committed}
use Rattle.tup_table.specs.Images.{CommitStep, CompactStep, Keeps}
use Rattle.tup_table.specs.Table.{entries_in, after_commit, StandsFor}
use Rattle.tup_table.specs.declared.change.Change.{Change}
use Rattle.tup_table.specs.declared.table.Table.{Table}
use Rattle.tup_table.proofs.Appends.{rests_store}
use Rattle.tup_table.proofs.Going.{as_step}
use Rattle.tup_table.proofs.Readying.{after_values}
use Rattle.tup_graph.specs.Changes.{once_made}
use Rattle.tup_graph.specs.Edits.{edited_by}
use Rattle.tup_graph.specs.declared.edit.Edit.{Edit}
use Rattle.tup_graph.specs.Graph.{GraphState}
use Rattle.tup_graph.specs.Opening.{IsGraphOf}
use Rattle.tup_graph.proofs.Values.{graph_by_values}
use Rattle.tup_stored_graph.specs.Held.{Held}
use Rattle.tup_stored_graph.specs.Transaction.{to_write}
use Rattle.tup_stored_graph.specs.Crash.{IsStoreOf, HasEither, GraphStep, LeavesEither}

-- a store with the keys and values of entries has their graph
kept_graph : (entries : Standing) (bytes : List ℕ) (g : GraphState) → Keeps entries bytes → IsGraphOf entries g → IsStoreOf g bytes
kept_graph entries bytes g keeps is =
    record { entries = keeps.0; leaves = keeps.1; stands = graph_by_values g entries keeps.0 (sym keeps.2) is }

module _ {S : Type 0} (world : S → World) (moment : S → ℕ) (left_since : S → ℕ → World → Type 0) (table : Table) (g : GraphState) (old : S) (stands : StandsFor world moment left_since table old) (is : IsGraphOf (entries_in table) g) where
  present : IsStoreOf g (world old).store
  present =
      record {
        entries = entries_in table;
        leaves = (stands.commits, rests_store stands.commits (world old).store stands.rests.bytes, stands.entries);
        stands = is;
      }

  left_before : (h : GraphState) (w : World) → left_since old (moment old) w → HasEither g h w
  left_before h w left = inl (subst (IsStoreOf g) (sym (stands.rests.durable w left)) present)

  either : (new : S) (h : GraphState) → GoesOn moment left_since old new (GraphStep g h) → LeavesEither moment left_since old new g h
  either new h on = record {
    only = record {
      later = on.later;
      each = λ w left. ⊎_elim (left_before h w) (λ from. from.2.store) (on.since (moment old) w (omega arith) left);
      before = λ t w le left. ⊎_elim inl (λ from. inr from.2.store) (on.since t w le left);
    };
    on = on;
  }

  -- where nothing is done
  pub as_it_was : (h : GraphState) → LeavesEither moment left_since old old g h
  as_it_was h = either old h (record { later = omega arith; kept = λ t w le left. left; since = λ t w le left. inl left })

  -- where the table commits
  pub as_committed : (new : S) (h : GraphState) (later : Standing) → IsGraphOf later h → GoesOn moment left_since old new (CommitStep (entries_in table) later) → LeavesEither moment left_since old new g h
  as_committed new h later after on =
      either new h (as_step moment left_since old new (CommitStep (entries_in table) later) (GraphStep g h) (λ v w left step. record {
        tree = step.tree;
        store = ⊎_elim (λ keeps. inl (kept_graph (entries_in table) w.store g keeps is)) (λ keeps. inr (kept_graph later w.store h keeps after)) step.store;
      }) on)

  -- where the table is compacted
  pub as_compacted : (new : S) → GoesOn moment left_since old new (CompactStep (entries_in table)) → LeavesEither moment left_since old new g g
  as_compacted new on =
      either new g (as_step moment left_since old new (CompactStep (entries_in table)) (GraphStep g g) (λ v w left step. record {
        tree = step.tree;
        store = inl (kept_graph (entries_in table) w.store g step.store is);
      }) on)

-- the graph that a commit of edits leaves, wherever its entries were put
pub made_graph : (old : Held) (edits : List Edit) → IsAscending (entries_in old.table) → ((origin : ℕ) → IsGraphOf (once_made origin (entries_in old.table) edits) (edited_by old.nodes edits))
    → (cs : List Change) → cs ≡ to_write old edits → IsGraphOf (entries_in (after_commit old.table cs)) (edited_by old.nodes edits)
made_graph old edits up read cs cs_are =
    let made = subst (λ (cs : List Change). IsGraphOf (committed 0 (entries_in old.table) cs) (edited_by old.nodes edits)) (sym cs_are) (read 0) in
    graph_by_values (edited_by old.nodes edits) (committed 0 (entries_in old.table) cs) (entries_in (after_commit old.table cs)) (after_values 0 old.table cs up) made

-- a graph that was opened by its fields commits edits
module _ {S : Type 0} (world : S → World) (moment : S → ℕ) (left_since : S → ℕ → World → Type 0) (old inside : Held) (view : inside ≡ old) (edits : List Edit) (site : S) where
  pub crash_now : StandsFor world moment left_since old.table site → IsAscending (entries_in old.table) → IsGraphOf (entries_in old.table) old.nodes → ((origin : ℕ) → IsGraphOf (once_made origin (entries_in old.table) edits) (edited_by old.nodes edits))
      → (new : S) (cs : List Change) → cs ≡ to_write old edits → GoesOn moment left_since site new (CommitStep (entries_in inside.table) (entries_in (after_commit inside.table cs))) → LeavesEither moment left_since site new old.nodes (edited_by old.nodes edits)
  crash_now stands up is read new cs cs_are on =
      let here : GoesOn moment left_since site new (CommitStep (entries_in old.table) (entries_in (after_commit old.table cs))) = subst (λ (h : Held). GoesOn moment left_since site new (CommitStep (entries_in h.table) (entries_in (after_commit h.table cs)))) view on in
      as_committed world moment left_since old.table old.nodes site stands is new (edited_by old.nodes edits) (entries_in (after_commit old.table cs)) (made_graph old edits up read cs cs_are) here

  -- and then its nodes are those of its table
  pub sound_after : IsAscending (entries_in old.table) → ((origin : ℕ) → IsGraphOf (once_made origin (entries_in old.table) edits) (edited_by old.nodes edits)) → (cs : List Change) → cs ≡ to_write old edits
      → (table : Table) (nodes : GraphState) → table ≡ after_commit inside.table cs → nodes ≡ edited_by inside.nodes edits → IsGraphOf (entries_in table) nodes
  sound_after up read cs cs_are table nodes table_is nodes_are =
      let made = made_graph old edits up read cs cs_are in
      let here = subst (λ (h : Held). IsGraphOf (entries_in (after_commit h.table cs)) (edited_by h.nodes edits)) (sym view) made in
      subst (λ (g : GraphState). IsGraphOf (entries_in table) g) (sym nodes_are)
      (subst (λ (t : Table). IsGraphOf (entries_in t) (edited_by inside.nodes edits)) (sym table_is) here)
