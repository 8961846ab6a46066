-- What committing edits does.
use Rattle.std.proofs.Common.{◌≡◌, List, Result, Ok, Err, inl, inr, ⊎_elim, ap, sym, subst}
use Rattle.std.specs.Result.{OnOk}
use Rattle.tup_path.specs.Gives.{GivesUnless}
use Rattle.tup_graph.specs.Edits.{edited_by}
use Rattle.tup_graph.specs.Graph.{GraphState}
use Rattle.tup_graph.specs.declared.edit.Edit.{Edit}
use Rattle.tup_graph.specs.declared.fault.GraphFault.{GraphFault}
use Rattle.tup_graph.specs.declared.fault.GraphFault.TheVariants.{NotThere, BadStore, Site, Full, Memory}
use Rattle.tup_stored_graph.specs.Held.{Held}
use Rattle.tup_stored_graph.specs.Transaction.{Leaves, IsFull}
use Rattle.tup_commit.specs.Noted.{MakesEdits, Notes}

abbrev Answer : Type 0
Answer = Result (Unit {0}) GraphFault

module _ {S : Type 0} (Are : List Edit → Type 0) (Is : GraphState → Type 0) (old : Held) (edits : List Edit) (are : Are edits) (new : Held) (before now : S) where
  made : (result : Answer) → (result ≡ Err Memory → ⊥) → Leaves edits (edited_by old.nodes edits) old new before now result → (IsFull old edits → GivesUnless result Memory (Err Full)) → MakesEdits Are old new before now result
  made result other leaves full = record {
    edits = edits;
    are = are;
    leaves = leaves;
    full = λ is. ⊎_elim (λ e. absurd (other e)) (λ e. e) (full is);
  }

  pub notes : (result : Answer) → Leaves edits (edited_by old.nodes edits) old new before now result → (IsFull old edits → GivesUnless result Memory (Err Full)) → Notes Are old new before now result
  notes (Ok done) leaves full = made (Ok done) (λ e. cc) leaves full
  notes (Err NotThere) leaves full = absurd leaves
  notes (Err (BadStore offset)) leaves full = absurd leaves
  notes (Err Site) leaves full = made (Err Site) (λ e. cc) leaves full
  notes (Err Full) leaves full = made (Err Full) (λ e. cc) leaves full
  notes (Err Memory) leaves full = ⊎_elim inl (λ lost. inr (edits, are, lost)) leaves

  pub stands_so : Is (edited_by old.nodes edits) → (result : Answer) → Leaves edits (edited_by old.nodes edits) old new before now result → OnOk result (Is new.nodes)
  stands_so is (Ok done) leaves = subst Is (sym (ap (λ (h : Held). h.nodes) leaves.0)) is
  stands_so is (Err fault) leaves = tt
