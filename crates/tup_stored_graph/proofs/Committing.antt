-- What edits leave of a graph, and what is known of one that was opened by its fields.
use Rattle.std.proofs.Common.{◌≡◌, ℕ, ◌&&◌, Bool, true, false, List, [], map, All, IsTrue, Result, Ok, Err, inl, inr, ⊎_elim, refl, sym, ap, subst, ◌∙◌}
use Rattle.tup_path.specs.Gives.{GivesUnless}
use Rattle.tup_table.specs.Entries.{Standing, IsAscending, committed}
use Rattle.tup_table.specs.Table.{entries_in, is_fresh as is_fresh_table, IsOver}
use Rattle.tup_table.specs.declared.change.Change.{Change}
use Rattle.tup_table.specs.declared.fault.TableFault.{TableFault}
use Rattle.tup_table.specs.declared.fault.TableFault.TheVariants as table
use Rattle.tup_graph.specs.Changes.{needed, once_made}
use Rattle.tup_graph.specs.Edits.{change_of, edited_by, HasSpelling}
use Rattle.tup_graph.specs.Fault.{fault_of}
use Rattle.tup_graph.specs.Opening.{IsGraphOf}
use Rattle.tup_graph.specs.declared.fault.GraphFault.{GraphFault}
use Rattle.tup_graph.specs.declared.fault.GraphFault.TheVariants as graph
use Rattle.tup_graph.specs.declared.edit.Edit.{Edit}
use Rattle.tup_graph.proofs.OneWay.{one_graph}
use Rattle.tup_stored_graph.proofs.Lengths.{all_writable}
use Rattle.tup_stored_graph.specs.Held.{Held, IsSound, is_fresh}
use Rattle.tup_stored_graph.specs.Transaction.{to_write, with_changes, after, IsFull}

first_true : (a b : Bool) → IsTrue (a && b) → a ≡ true
first_true true b is = refl
first_true false b is = is

whole_if_fresh : (graph : Held) → IsTrue (is_fresh graph) → graph.whole ≡ true
whole_if_fresh graph fresh = first_true graph.whole (is_fresh_table graph.table) fresh

-- edits that change nothing leave the graph as it is
module _ (old : Held) (edits : List Edit) (fresh : IsTrue (is_fresh old)) where
  pub unchanged : ((origin : ℕ) → IsGraphOf (once_made origin (entries_in old.table) edits) (edited_by old.nodes edits)) → IsGraphOf (entries_in old.table) old.nodes → to_write old edits ≡ [] → old ≡ after old edits (edited_by old.nodes edits)
  unchanged read is none =
      let nodes = edited_by old.nodes edits in
      let same : old.nodes ≡ nodes = one_graph (entries_in old.table) old.nodes nodes is (subst (λ (cs : List Change). IsGraphOf (committed 0 (entries_in old.table) cs) nodes) none (read 0)) in
      let kept : old.table ≡ with_changes old.table (to_write old edits) = sym (ap (with_changes old.table) none) in
      λ i. record { table = kept i; nodes = same i; whole = whole_if_fresh old fresh i }

-- ---- what is known of a graph that was opened by its fields
module _ (old inside : Held) (view : inside ≡ old) where
  pub sound_now : IsSound inside → IsTrue (is_fresh old) → IsGraphOf (entries_in old.table) old.nodes
  sound_now sound fresh = subst IsSound view sound (whole_if_fresh old fresh)

  pub entries_now : (es : Standing) → es ≡ entries_in inside.table → es ≡ entries_in old.table
  entries_now es is = is ∙ ap (λ (h : Held). entries_in h.table) view

  pub ascending_now : (es : Standing) → es ≡ entries_in inside.table → IsAscending es → IsAscending (entries_in old.table)
  ascending_now es is up = subst (λ (es : Standing). IsAscending es) (entries_now es is) up

  pub written_now : (edits : List Edit) (es : Standing) (cs : List Change) → es ≡ entries_in inside.table → cs ≡ needed es (map change_of edits) → cs ≡ to_write old edits
  written_now edits es cs is cs_are = cs_are ∙ ap (λ (es : Standing). needed es (map change_of edits)) (entries_now es is)

  -- and where a commit of edits was refused that have a spelling, the store may be full
  pub full_refused : (edits : List Edit) (cs : List Change) → cs ≡ to_write old edits → All HasSpelling edits → (result : Result (Unit {0}) TableFault) (fault : TableFault) → result ≡ Err fault
      → (IsOver inside.table cs → GivesUnless result table.Memory (Err table.Full)) → IsFull old edits → GivesUnless {T = Unit {0}} (Err (fault_of fault)) graph.Memory (Err graph.Full)
  full_refused edits cs cs_are spelled result fault failed fits (inl none) = absurd (none (all_writable edits spelled))
  full_refused edits cs cs_are spelled result fault failed fits (inr over) =
      let there : IsOver inside.table cs = subst (λ (h : Held). IsOver h.table cs) (sym view) (subst (λ (c : List Change). IsOver old.table c) (sym cs_are) over.1) in
      ⊎_elim (λ memory. as_told table.Memory (cc (failed, memory)) (inl refl)) (λ full. as_told table.Full (cc (failed, full)) (inr refl)) (fits there)
    where
      as_told : (other : TableFault) → fault ≡ other → GivesUnless {T = Unit {0}} (Err (fault_of other)) graph.Memory (Err graph.Full) → GivesUnless {T = Unit {0}} (Err (fault_of fault)) graph.Memory (Err graph.Full)
      as_told other is told = subst (λ (f : TableFault). GivesUnless {T = Unit {0}} (Err (fault_of f)) graph.Memory (Err graph.Full)) (sym is) told

  -- edits that have spellings and change nothing leave room
  pub nothing_not_full : (edits : List Edit) → to_write old edits ≡ [] → All HasSpelling edits → IsFull old edits → ⊥
  nothing_not_full edits none spelled (inl refused) = refused (all_writable edits spelled)
  nothing_not_full edits none spelled (inr over) = over.0 none

  -- and so do those that were committed
  pub committed_not_full : (edits : List Edit) (cs : List Change) → cs ≡ to_write old edits → All HasSpelling edits → (result : Result (Unit {0}) TableFault) (done : Unit {0}) → result ≡ Ok done
      → (IsOver inside.table cs → GivesUnless result table.Memory (Err table.Full)) → IsFull old edits → ⊥
  committed_not_full edits cs cs_are spelled result done committed fits (inl refused) = refused (all_writable edits spelled)
  committed_not_full edits cs cs_are spelled result done committed fits (inr over) =
      let there : IsOver inside.table cs = subst (λ (h : Held). IsOver h.table cs) (sym view) (subst (λ (c : List Change). IsOver old.table c) (sym cs_are) over.1) in
      ⊎_elim (λ memory. absurd (cc (committed, memory))) (λ full. absurd (cc (committed, full))) (fits there)
