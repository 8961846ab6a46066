-- Giving up paths, by how the settling and the commit ended.
use Rattle.std.proofs.Common.{◌≡◌, ◌⊎◌, Bool, List, IsTrue, Result, Ok, Err, inl, inr, ⊎_elim, refl, sym, ap, subst, ◌∙◌}
use Rattle.std.specs.Result.{OnOk}
use Rattle.tup_path.specs.Name.{Names}
use Rattle.tup_site.specs.World.{World}
use Rattle.tup_graph.specs.Graph.{GraphState}
use Rattle.tup_graph.specs.declared.edit.Edit.{Edit}
use Rattle.tup_graph.specs.Transactions.{forget_edits, with_forgotten}
use Rattle.tup_graph.specs.declared.fault.GraphFault.{GraphFault}
use Rattle.tup_graph.specs.declared.fault.GraphFault.TheVariants.{NotThere, BadStore, Site, Full, Memory}
use Rattle.tup_stored_graph.specs.Held.{Held, is_fresh}
use Rattle.tup_stored_graph.specs.Transaction.{Leaves}
use Rattle.tup_stored_graph.proofs.Fresh.{after_is_fresh, lost_is_unfresh}
use Rattle.tup_ledger.specs.Given.{GivesUp}

module _ (tells : Bool) (paths : List Names) (old : Held) (v w : World) (same : IsTrue tells → w ≡ v) where
  -- the settling failed
  pub unsettled : (fault : GraphFault) → (fault ≡ Site) ⊎ (fault ≡ Memory) → GivesUp tells paths old old v w (Err fault)
  unsettled fault why =
      ⊎_elim (λ is. subst (λ (f : GraphFault). GivesUp tells paths old old v w (Err f)) (sym is) (inl (refl, same)))
      (λ is. subst (λ (f : GraphFault). GivesUp tells paths old old v w (Err f)) (sym is) (inl (refl, same))) why

-- the commit ended so, from a world that is the first one
module _ {S : Type 0} (world : S → World) (tells : Bool) (paths : List Names) (old new : Held) (mid now : S) (v : World) (same : IsTrue tells → world mid ≡ v) where
  again : now ≡ mid → IsTrue tells → world now ≡ v
  again is t = (λ i. world (is i)) ∙ same t

  pub settled : (result : Result (Unit {0}) GraphFault) → Leaves (forget_edits old.nodes paths) (with_forgotten old.nodes paths) old new mid now result → GivesUp tells paths old new v (world now) result
  settled (Ok done) leaves = (leaves.0, λ none. again (leaves.1 none))
  settled (Err NotThere) leaves = absurd leaves
  settled (Err (BadStore offset)) leaves = absurd leaves
  settled (Err Site) leaves = inr leaves
  settled (Err Full) leaves = (leaves.0, (leaves.1, again leaves.2))
  settled (Err Memory) leaves = ⊎_elim (λ none. inl (none.0, again none.1)) (λ lost. inr (lost_is_unfresh (forget_edits old.nodes paths) old new lost)) leaves

-- ---- a commit that was done leaves a fresh graph
module _ (edits : List Edit) (nodes : GraphState) (old new : Held) (fresh : IsTrue (is_fresh old)) where
  pub ok_after : {S : Type 0} (before now : S) {P : Type 0} (result : Result (Unit {0}) GraphFault) → Leaves edits nodes old new before now result → (IsTrue (is_fresh new) → new.nodes ≡ nodes → P) → OnOk result P
  ok_after before now (Ok done) leaves then =
      then (subst (λ (h : Held). IsTrue (is_fresh h)) (sym leaves.0) (after_is_fresh old edits nodes fresh))
      (ap (λ (h : Held). h.nodes) leaves.0)
  ok_after before now (Err fault) leaves then = tt
