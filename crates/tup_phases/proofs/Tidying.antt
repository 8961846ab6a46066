-- A store that is compacted keeps the graph that it had.
use Rattle.std.proofs.Common.{◌≡◌, ◌⊎◌, ℕ, ◌≤◌, IsTrue, inl, ⊎_elim, sym, subst}
use Rattle.tup_site.specs.Crash.{GoesOn}
use Rattle.tup_site.specs.World.{World, TreeStays}
use Rattle.tup_site.specs.declared.site.Site.{Ghosts as Site}
use Rattle.tup_table.specs.Table.{entries_in}
use Rattle.tup_graph.specs.Graph.{GraphState}
use Rattle.tup_graph.specs.Kept.{IsGraphIn}
use Rattle.tup_graph.specs.Opening.{IsGraphOf}
use Rattle.tup_graph.specs.declared.fault.GraphFault.{GraphFault}
use Rattle.tup_graph.specs.declared.fault.GraphFault.TheVariants as graph
use Rattle.tup_stored_graph.specs.Crash.{GraphStep, LeavesEither}
use Rattle.tup_stored_graph.specs.Held.{Held, StandsFor}
use Rattle.tup_stored_graph.proofs.Crashes.{as_it_was}
use Rattle.tup_commit.specs.Crash.{LeavesNoted}
use Rattle.tup_commit.proofs.Crashes.{noted}
use Rattle.tup_law_site.proofs.Laws.{keeps_noted}
use Rattle.tup_law_phases.specs.Language.{tupfiles}
use Rattle.tup_partial.specs.Plan.{AreFlagsOfRules}
use Rattle.tup_promise.specs.Stopped.{stop_of_graph}
use Rattle.tup_phases.specs.Kept.{HoldsWithin, KeepsOn, LeavesFiles, OwnsOn}
use Rattle.tup_phases.specs.Prepared.{StopsReading}
use Rattle.tup_phases.proofs.Keeping.{over, since_on, trees_by}
use Rattle.tup_phases.proofs.Owning.{noted_owns, stored_over}
use Rattle.tup_phases.proofs.Within.{noted_within, own_within}

-- no other graph than the one before
abbrev NoOther : GraphState → Type 0
NoOther g = ⊥

module _ {S : Type 0} (site : Site S) (tells : IsTrue site.tells) (earlier : (s : S) (t u : ℕ) (w : World) → IsTrue site.tells → t ≤ u → site.left_since s u w → site.left_since s t w)
    (present : (s : S) → IsTrue site.tells → site.left_since s (site.moment s) (site.world s)) (held : Held) (old : S) (stands : StandsFor site.world site.moment site.left_since held old) (is : IsGraphOf (entries_in held.table) held.nodes) where
  -- where nothing is done
  pub untouched : LeavesEither site.moment site.left_since old old held.nodes held.nodes
  untouched = as_it_was site.world site.moment site.left_since held.table held.nodes old stands is held.nodes

  module _ (new : S) (leaves : LeavesEither site.moment site.left_since old new held.nodes held.nodes) where
    -- a store with the graph is one with it or with no other
    same : LeavesNoted site.moment site.left_since old new held.nodes NoOther
    same = noted site.moment site.left_since held.nodes held.nodes NoOther (λ w store. inl store) old new leaves

    pub tidied_trees : GoesOn site.moment site.left_since old new TreeStays
    tidied_trees = trees_by site tells earlier present old new (GraphStep held.nodes held.nodes) (λ v w step. step.tree) leaves.on

    pub tidied_keeps : LeavesFiles site old new → KeepsOn site old new
    tidied_keeps files = λ next first since kept.
        since_on site next first since old new files kept.began
        (keeps_noted site tells earlier present next tupfiles (site.known old) first since held old new (over site next first since held old stands is kept) NoOther (λ h no. absurd no) same)

    pub tidied_within : (first : World) → AreFlagsOfRules held.nodes → IsGraphIn first.store held.nodes → HoldsWithin first (site.world new)
    tidied_within first flags stored = noted_within site tells earlier present first held.nodes NoOther old new same (own_within first held.nodes stored flags) (λ h no. absurd no)

    pub tidied_owns : OwnsOn site old new
    tidied_owns = λ begun since within owns.
        noted_owns site tells earlier present begun since old new within owns held.nodes (stored_over site tells earlier present held old stands is) NoOther same (λ h no. absurd no)

-- only the outside stops it
pub tidying_reads : (fault : GraphFault) → (fault ≡ graph.Site) ⊎ (fault ≡ graph.Memory) → StopsReading (stop_of_graph fault)
tidying_reads fault why =
    ⊎_elim (λ failed. subst (λ (f : GraphFault). StopsReading (stop_of_graph f)) (sym failed) tt) (λ memory. subst (λ (f : GraphFault). StopsReading (stop_of_graph f)) (sym memory) tt) why
