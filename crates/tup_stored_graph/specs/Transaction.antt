-- What a transaction does to a graph and to its store (own).
use Rattle.std.specs.Prelude.{◌≡◌, ◌≢◌, ◌⊎◌, true, false, List, [], ◌∷◌, All, Contains, map, Result, Ok, Err}
use Rattle.tup_table.specs.Table.{entries_in, after_commit, IsOver}
use Rattle.tup_table.specs.declared.change.Change.{Change}
use Rattle.tup_table.specs.declared.table.Table.{Table}
use Rattle.tup_graph.specs.Changes.{needed}
use Rattle.tup_graph.specs.Edits.{change_of, IsEditLong, IsEditWritable}
use Rattle.tup_graph.specs.Graph.{GraphState, empty_graph}
use Rattle.tup_graph.specs.declared.edit.Edit.{Edit}
use Rattle.tup_graph.specs.declared.fault.GraphFault.{GraphFault}
use Rattle.tup_graph.specs.declared.fault.GraphFault.TheVariants.{Site, Full, Memory}
use Rattle.tup_stored_graph.specs.Held.{Held, stale}

-- the changes of the table that a transaction with these edits writes
abbrev pub to_write : Held → List Edit → List Change
to_write graph edits = needed (entries_in graph.table) (map change_of edits)

-- a table after one commit of changes, where there are any
abbrev pub with_changes : Table → List Change → Table
with_changes table [] = table
with_changes table (change ∷ changes) = after_commit table (change ∷ changes)

-- a graph after a transaction with these edits, which leave these nodes
abbrev pub after : Held → List Edit → GraphState → Held
after graph edits nodes = record { table = with_changes graph.table (to_write graph edits); nodes = nodes; whole = true }

-- a graph whose changes are in its store, and whose nodes were lost while they took them
abbrev pub emptied : Held → List Edit → Held
emptied graph edits = record { table = with_changes graph.table (to_write graph edits); nodes = empty_graph; whole = false }

-- what a transaction leaves that failed under way: nothing is known of the store, or the nodes are lost
abbrev pub IsLost : List Edit → Held → Held → Type 0
IsLost edits old new = (new ≡ stale old) ⊎ (new ≡ emptied old edits)

-- the store would be too large with these edits
abbrev pub IsTooLarge : Held → List Edit → Type 0
IsTooLarge graph edits = (to_write graph edits ≢ []) × IsOver graph.table (to_write graph edits)

-- the store has no room for these edits: a record is refused for a length, or the store would be too large
abbrev pub IsFull : Held → List Edit → Type 0
IsFull graph edits = (¬ All IsEditWritable edits) ⊎ IsTooLarge graph edits

-- the record of one of these edits is longer than any store may be
abbrev pub HasLongRecord : List Edit → Type 0
HasLongRecord edits = (edit : Edit) × Contains edits edit × IsEditLong edit

-- What a transaction with these edits, which leave these nodes, does to the graph and the site, by
-- its answer. It writes nothing where it changes nothing, where the store has no room, or where
-- memory is wanting and the graph stays fresh.
abbrev pub Leaves : {S : Type 0} → List Edit → GraphState → Held → Held → S → S → Result (Unit {0}) GraphFault → Type 0
Leaves edits nodes old new before now (Ok done) = (new ≡ after old edits nodes) × (to_write old edits ≡ [] → now ≡ before)
Leaves edits nodes old new before now (Err Full) = IsFull old edits × (new ≡ old) × (now ≡ before)
Leaves edits nodes old new before now (Err Site) = new ≡ stale old
Leaves edits nodes old new before now (Err Memory) = ((new ≡ old) × (now ≡ before)) ⊎ IsLost edits old new
Leaves edits nodes old new before now (Err other) = ⊥
