-- Whether a graph is fresh after a transaction, by what it answers.
use Rattle.std.proofs.Common.{◌≡◌, Bool, true, false, ◌&&◌, List, [], ◌∷◌, IsTrue, Result, Ok, Err, ⊎_elim, refl, sym, ap, subst, ◌∙◌}
use Rattle.std.specs.Result.{OnOk}
use Rattle.tup_table.specs.Table.{is_fresh as is_fresh_table}
use Rattle.tup_table.specs.declared.change.Change.{Change}
use Rattle.tup_table.specs.declared.table.Table.{Table}
use Rattle.tup_graph.specs.Graph.{GraphState}
use Rattle.tup_graph.specs.declared.edit.Edit.{Edit}
use Rattle.tup_graph.specs.declared.fault.GraphFault.{GraphFault}
use Rattle.tup_stored_graph.specs.Held.{Held, is_fresh, stale}
use Rattle.tup_stored_graph.specs.Transaction.{to_write, with_changes, after, emptied, IsLost, Leaves}

pub second : (a b : Bool) → (a && b) ≡ true → b ≡ true
second true b is = is
second false b is = absurd (cc)

changed_is_fresh : (table : Table) (changes : List Change) → is_fresh_table table ≡ true → is_fresh_table (with_changes table changes) ≡ true
changed_is_fresh table [] fresh = fresh
changed_is_fresh table (change ∷ changes) fresh = refl

-- a graph that took a transaction stands for its store
pub after_is_fresh : (old : Held) (edits : List Edit) (nodes : GraphState) → is_fresh old ≡ true → is_fresh (after old edits nodes) ≡ true
after_is_fresh old edits nodes fresh = changed_is_fresh old.table (to_write old edits) (second old.whole (is_fresh_table old.table) fresh)

pub ok_is_fresh : {S : Type 0} (edits : List Edit) (nodes : GraphState) (old new : Held) (before now : S) (result : Result (Unit {0}) GraphFault) → is_fresh old ≡ true
    → Leaves edits nodes old new before now result → OnOk result (IsTrue (is_fresh new))
ok_is_fresh edits nodes old new before now (Ok done) fresh leaves = subst (λ (h : Held). is_fresh h ≡ true) (sym leaves.0) (after_is_fresh old edits nodes fresh)
ok_is_fresh edits nodes old new before now (Err fault) fresh leaves = tt

-- one that was lost doesn't
none_fresh : (b : Bool) → (b && false) ≡ false
none_fresh true = refl
none_fresh false = refl

pub stale_is_unfresh : (old : Held) → is_fresh (stale old) ≡ false
stale_is_unfresh old = none_fresh old.whole

pub lost_is_unfresh : (edits : List Edit) (old new : Held) → IsLost edits old new → is_fresh new ≡ false
lost_is_unfresh edits old new lost = ⊎_elim (λ is. ap is_fresh is ∙ stale_is_unfresh old) (λ is. ap is_fresh is) lost
