-- A graph whose table was compacted has the nodes that it had.
use Rattle.std.proofs.Common.{◌≡◌, ◌&&◌, Bool, true, false, IsTrue, Result, Ok, Err, ⊎_elim, sym, ap, subst, ◌∙◌}
use Rattle.tup_table.specs.Entries.{IsAscending}
use Rattle.tup_table.specs.Table.{entries_in, is_fresh as is_fresh_table, after_compacting, CompactLeaves}
use Rattle.tup_table.specs.declared.fault.TableFault.{TableFault}
use Rattle.tup_table.specs.declared.fault.TableFault.TheVariants.{NotThere, BadStore, Site, Full, Memory}
use Rattle.tup_table.specs.declared.table.Table.{Table}
use Rattle.tup_table.proofs.Compact.{compacted_values}
use Rattle.tup_graph.specs.Graph.{GraphState}
use Rattle.tup_graph.specs.Opening.{IsGraphOf}
use Rattle.tup_graph.proofs.Values.{graph_by_values}

module _ {S : Type 0} (old new : Table) (before after : S) where
  -- the nodes are those of its entries
  module _ (g : GraphState) (up : IsAscending (entries_in old)) (is : IsGraphOf (entries_in old) g) where
    moved_to : (table : Table) → new ≡ table → IsGraphOf (entries_in table) g → IsGraphOf (entries_in new) g
    moved_to table same there = subst (λ (t : Table). IsGraphOf (entries_in t) g) (sym same) there

    pub graph_after : (result : Result (Unit {0}) TableFault) → CompactLeaves old new before after result → IsGraphOf (entries_in new) g
    graph_after (Ok done) leaves =
        ⊎_elim (λ made. moved_to (after_compacting old) made (graph_by_values g (entries_in old) (entries_in (after_compacting old)) (sym (compacted_values (entries_in old) up)) is))
        (λ same. moved_to old same.1 is) leaves
    graph_after (Err NotThere) leaves = absurd leaves
    graph_after (Err (BadStore offset)) leaves = absurd leaves
    graph_after (Err Site) leaves = subst (λ (t : Table). IsGraphOf (entries_in t) g) (sym leaves) is
    graph_after (Err Full) leaves = absurd leaves
    graph_after (Err Memory) leaves = ⊎_elim (λ lost. subst (λ (t : Table). IsGraphOf (entries_in t) g) (sym lost) is) (λ same. moved_to old same.0 is) leaves

  -- and it is fresh, where it was
  pub fresh_after : (whole : Bool) (done : Unit {0}) → IsTrue (whole && is_fresh_table old) → CompactLeaves old new before after (Ok done) → IsTrue (whole && is_fresh_table new)
  fresh_after true done fresh leaves = ⊎_elim (λ made. ap is_fresh_table made) (λ same. ap is_fresh_table same.1 ∙ fresh) leaves
  fresh_after false done fresh leaves = absurd (cc)
