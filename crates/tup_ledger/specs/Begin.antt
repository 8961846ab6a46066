-- How a project begins, and what that leaves (own).
use Rattle.std.specs.Prelude.{◌≡◌, ◌⊎◌, ℕ, List, [], ◌∷◌, ◌++◌, Result, Ok, Err}
use Rattle.tup_site.specs.World.{World, TreeStays}
use Rattle.tup_table.specs.Images.{OpenStep, rested}
use Rattle.tup_table.specs.Reading.{ReadsAs}
use Rattle.tup_table.specs.Store.{header}
use Rattle.tup_table.specs.declared.opened.Opened.{Opened}
use Rattle.tup_graph.specs.Graph.{GraphState}
use Rattle.tup_graph.specs.declared.fault.GraphFault.{GraphFault}
use Rattle.tup_graph.specs.declared.fault.GraphFault.TheVariants.{BadStore, Site, Memory}
use Rattle.tup_stored_graph.specs.Crash.{IsStoreOf}
use Rattle.tup_stored_graph.specs.Opening.{OpensAs}
use Rattle.tup_ledger.specs.declared.beginning.Begun.{Begun}
use Rattle.tup_ledger.specs.declared.beginning.Begun.TheVariants.{Made, WasThere}

-- the bytes are those that opening a store leaves: with a closed gate at its end, or compacted, where compacting was stopped
abbrev pub IsRested : List ℕ → List ℕ → Type 0
IsRested before after = (opened : Opened) × ReadsAs before (Ok opened) × (after ≡ rested before opened)

-- Where there was no store there is that of the empty graph, and where one reads it stands for the same graph, and nothing
-- was written but what opening it writes. Bytes that are neither empty nor a store are told by the place of their damage.
abbrev pub Begins : World → World → Result Begun GraphFault → Type 0
Begins v w (Ok Made) = (v.store ≡ []) × (w.store ≡ header ++ 0 ∷ [])
Begins v w (Ok WasThere) = (g : GraphState) × IsStoreOf g v.store × IsStoreOf g w.store × IsRested v.store w.store
Begins v w (Err (BadStore offset)) = OpensAs v.store w.store (Err (BadStore offset))
Begins v w (Err Site) = Unit {0}
Begins v w (Err Memory) = Unit {0}
Begins v w (Err other) = ⊥

-- what it adds to what a crash may leave: a store of the same entries, or where there was none any bytes; the tree stays
abbrev pub BeginStep : World → World → World → Type 0
BeginStep first v w = OpenStep v w ⊎ ((first.store ≡ []) × TreeStays v w)
