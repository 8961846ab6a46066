-- How a project begins, by how its opening ended.
use Rattle.std.proofs.Common.{◌≡◌, ◌≢◌, ◌⊎◌, ℕ, List, [], ◌∷◌, ◌++◌, Result, Ok, Err, inl, inr, ⊎_elim, refl, ap, ◌∙◌}
use Rattle.std.specs.Result.{OnOk}
use Rattle.tup_site.specs.Crash.{GoesOn, WriteStep}
use Rattle.tup_site.specs.World.{World, TreeStays}
use Rattle.tup_table.specs.Images.{OpenStep}
use Rattle.tup_table.specs.Store.{header}
use Rattle.tup_table.specs.Table.{entries_in}
use Rattle.tup_table.specs.declared.opened.Opened.{Opened}
use Rattle.tup_table.proofs.Going.{IsEarlier, as_step, then_on}
use Rattle.tup_graph.specs.Opening.{IsGraphOf}
use Rattle.tup_graph.specs.declared.fault.GraphFault.{GraphFault}
use Rattle.tup_graph.specs.declared.fault.GraphFault.TheVariants.{NotThere, BadStore, Site, Full, Memory}
use Rattle.tup_stored_graph.specs.Cause.{OnlyOutside}
use Rattle.tup_stored_graph.specs.Crash.{IsStoreOf}
use Rattle.tup_stored_graph.specs.Held.{Held}
use Rattle.tup_stored_graph.specs.Opening.{OpensAs}
use Rattle.tup_ledger.specs.Begin.{Begins, BeginStep}
use Rattle.tup_ledger.specs.declared.beginning.Begun.{Begun}
use Rattle.tup_ledger.specs.declared.beginning.Begun.TheVariants.{Made, WasThere}

-- a store that was opened is of the graph that was read
pub opened_store : (bytes left : List ℕ) (graph : Held) → OpensAs bytes left (Ok graph) → IsGraphOf (entries_in graph.table) graph.nodes → IsStoreOf graph.nodes bytes
opened_store bytes left graph opens is =
    let read = opens.0 in
    record {
      entries = entries_in graph.table;
      leaves = (read.0, read.1, ap (λ (o : Opened). o.entries) read.2);
      stands = is;
    }

-- a refusal of the opening, but for want of a store
pub begins_not : (v w : World) (fault : GraphFault) → fault ≢ NotThere → OpensAs v.store w.store (Err fault) → Begins v w (Err fault)
begins_not v w NotThere other opens = absurd (other refl)
begins_not v w (BadStore offset) other opens = opens
begins_not v w Site other opens = tt
begins_not v w Full other opens = opens
begins_not v w Memory other opens = tt

-- a store that was made, or wasn't
pub begins_made : (v w : World) → v.store ≡ [] → (result : Result Begun GraphFault) → OnOk result (result ≡ Ok Made) → OnOk result (w.store ≡ header ++ 0 ∷ []) → OnlyOutside result → Begins v w result
begins_made v w empty (Ok Made) made store outside = (empty, store)
begins_made v w empty (Ok WasThere) made store outside = absurd (cc)
begins_made v w empty (Err NotThere) made store outside = ⊎_elim (λ is. absurd (cc)) (λ is. absurd (cc)) outside
begins_made v w empty (Err (BadStore offset)) made store outside = ⊎_elim (λ is. absurd (cc)) (λ is. absurd (cc)) outside
begins_made v w empty (Err Full) made store outside = ⊎_elim (λ is. absurd (cc)) (λ is. absurd (cc)) outside
begins_made v w empty (Err Site) made store outside = tt
begins_made v w empty (Err Memory) made store outside = tt

-- what is kept at every end
abbrev pub KeepsBegun : World → World → Type 0
KeepsBegun v w = (w ≡ v) ⊎ BeginStep v v w

pub keeps_begun : (v w : World) → (w ≡ v) ⊎ OpenStep v w → KeepsBegun v w
keeps_begun v w how = ⊎_elim inl (λ step. inr (inl step)) how

-- ---- what a crash leaves
module _ {S : Type 0} (moment : S → ℕ) (left_since : S → ℕ → World → Type 0) (first : World) where
  same_tree : (v w : World) → BeginStep first v w → TreeStays v w
  same_tree v w step = ⊎_elim (λ opened. opened.tree) (λ made. made.1) step

  -- of a store that was opened
  pub opened_on : (old new : S) → GoesOn moment left_since old new OpenStep → GoesOn moment left_since old new (BeginStep first)
  opened_on old new on = as_step moment left_since old new OpenStep (BeginStep first) (λ v w left step. inl step) on

  -- and of one that was made where there was none
  pub made_on : (old mid new : S) → IsEarlier moment left_since mid → first.store ≡ [] → GoesOn moment left_since old mid OpenStep → GoesOn moment left_since mid new (WriteStep 0 18)
      → GoesOn moment left_since old new (BeginStep first)
  made_on old mid new earlier empty opened made =
      then_on moment left_since old mid new (BeginStep first) earlier (λ u v w one two. inr (empty, same_tree v w two ∙ same_tree u v one)) (opened_on old mid opened)
      (as_step moment left_since mid new (WriteStep 0 18) (BeginStep first) (λ v w left step. inr (empty, step.tree)) made)
