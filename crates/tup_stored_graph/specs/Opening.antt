-- What opening a graph answers, by the bytes of the store (own).
use Rattle.std.specs.Prelude.{◌≡◌, ◌⊎◌, ℕ, List, [], Result, Ok, Err}
use Rattle.tup_table.specs.Images.{rested}
use Rattle.tup_table.specs.Reading.{ReadsAs}
use Rattle.tup_table.specs.Table.{entries_in, gate_of}
use Rattle.tup_table.specs.declared.fault.TableFault.TheVariants as table
use Rattle.tup_table.specs.declared.opened.Opened.{Opened}
use Rattle.tup_graph.specs.Opening.{IsBroken}
use Rattle.tup_graph.specs.declared.fault.GraphFault.{GraphFault}
use Rattle.tup_graph.specs.declared.fault.GraphFault.TheVariants.{NotThere, BadStore, Site, Memory, Full}
use Rattle.tup_stored_graph.specs.Held.{Held}

-- what the table of a graph has, as the bytes of a store read
abbrev pub opened_in : Held → Opened
opened_in graph = record { entries = entries_in graph.table; gate = gate_of graph.table }

-- the bytes are a store, and among what its commits leave the first that is no record, or doesn't
-- fit, is of this offset
pub record HasBrokenRecord (bytes : List ℕ) (offset : ℕ) (left : List ℕ) : Type 0 where
  pub opened : Opened
  pub reads : ReadsAs bytes (Ok opened)
  pub broken : IsBroken opened.entries offset
  pub closes : left ≡ rested bytes opened

-- What opening a store of these bytes answers, and the bytes that it leaves; a failure of the site
-- and want of memory say nothing of them. Only the end of a store whose commits read is written, and what finishes compacting.
abbrev pub OpensAs : List ℕ → List ℕ → Result Held GraphFault → Type 0
OpensAs bytes left (Ok graph) = ReadsAs bytes (Ok (opened_in graph)) × (left ≡ rested bytes (opened_in graph))
OpensAs bytes left (Err NotThere) = (bytes ≡ []) × (left ≡ bytes)
OpensAs bytes left (Err (BadStore offset)) = (ReadsAs bytes (Err (table.BadStore offset)) × (left ≡ bytes)) ⊎ HasBrokenRecord bytes offset left
OpensAs bytes left (Err Site) = Unit {0}
OpensAs bytes left (Err Memory) = Unit {0}
OpensAs bytes left (Err Full) = ⊥
