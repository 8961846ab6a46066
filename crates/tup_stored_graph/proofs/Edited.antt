-- A transaction, by the edits that it was given.
use Rattle.std.proofs.Common.{◌≡◌, ℕ, List, Result, Ok, All, sym, ap, subst, ◌∙◌, ⊎_elim}
use Rattle.tup_path.specs.Gives.{GivesUnless}
use Rattle.tup_site.specs.World.{World}
use Rattle.tup_table.specs.Entries.{Standing}
use Rattle.tup_graph.specs.Changes.{once_made}
use Rattle.tup_graph.specs.Edits.{edited_by, HasSpelling}
use Rattle.tup_graph.specs.Graph.{GraphState}
use Rattle.tup_graph.specs.Opening.{IsGraphOf}
use Rattle.tup_graph.specs.declared.edit.Edit.{Edit}
use Rattle.tup_graph.specs.declared.fault.GraphFault.{GraphFault}
use Rattle.tup_graph.specs.declared.fault.GraphFault.TheVariants.{Memory}
use Rattle.tup_stored_graph.specs.Crash.{LeavesEither}
use Rattle.tup_stored_graph.specs.Held.{Held}
use Rattle.tup_stored_graph.specs.Transaction.{Leaves}

pub ok_given : (edits known : List Edit) → GivesUnless (Ok edits) Memory (Ok known) → edits ≡ known
ok_given edits known gives = ⊎_elim (λ is. absurd (cc)) (λ is. (let same : edits ≡ known = cc in same)) gives

module _ (edits known : List Edit) (nodes after : GraphState) (same : edits ≡ known) (left : edited_by nodes known ≡ after) where
  as_given : edited_by nodes edits ≡ after
  as_given = ap (edited_by nodes) same ∙ left

  pub as_read : (entries : Standing) (origin : ℕ) → (All HasSpelling known → IsGraphOf (once_made origin entries known) after) → All HasSpelling edits → IsGraphOf (once_made origin entries edits) (edited_by nodes edits)
  as_read entries origin read spelled =
      subst (IsGraphOf (once_made origin entries edits)) (sym as_given)
      (subst (λ (e : List Edit). IsGraphOf (once_made origin entries e) after) (sym same) (read (subst (λ (e : List Edit). All HasSpelling e) same spelled)))

  pub as_left : {S : Type 0} (old new : Held) (before now : S) (result : Result (Unit {0}) GraphFault) → Leaves edits (edited_by nodes edits) old new before now result → Leaves known after old new before now result
  as_left old new before now result leaves =
      subst (λ (g : GraphState). Leaves known g old new before now result) as_given
      (subst (λ (e : List Edit). Leaves e (edited_by nodes edits) old new before now result) same leaves)

  pub as_crashed : {S : Type 0} (moment : S → ℕ) (left_since : S → ℕ → World → Type 0) (old new : S) (before : GraphState) → LeavesEither moment left_since old new before (edited_by nodes edits) → LeavesEither moment left_since old new before after
  as_crashed moment left_since old new before leaves = subst (λ (g : GraphState). LeavesEither moment left_since old new before g) as_given leaves
