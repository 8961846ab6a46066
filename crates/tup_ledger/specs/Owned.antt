-- Paths that become owned (own): what the transaction writes, and the graph that it leaves.
use Rattle.std.specs.Prelude.{ℕ, List, Option, None, Some, fold, map}
use Rattle.std.specs.FinMap as finite
use Rattle.tup_path.specs.Name.{Names}
use Rattle.tup_path.specs.Order.{by_names}
use Rattle.tup_record.specs.declared.owned.OwnedState.TheVariants.{Unsure}
use Rattle.tup_record.specs.declared.record.Record.TheVariants as records
use Rattle.tup_graph.specs.declared.edit.Edit.{Edit}
use Rattle.tup_graph.specs.declared.edit.Edit.TheVariants.{Put}
use Rattle.tup_graph.specs.declared.owned.Owned.{Owned}
use Rattle.tup_graph.specs.Graph.{GraphState}

-- the paths that a graph owns, in their order
abbrev pub owned_in : GraphState → List Names
owned_in g = finite.keys g.owned

-- who makes a path: its maker, if it is owned already
abbrev pub maker_in : GraphState → Names → Option ℕ
maker_in g path = elim (finite.get g.owned path) [ Some owned ↦ owned.maker | None ↦ None ]

-- a path is owned from now on, and unsure: whatever stands there is generated
abbrev pub owning : GraphState → Names → Edit
owning g path = Put (records.Owned path (maker_in g path) Unsure)

-- all of these are owned from now on
abbrev pub own_edits : GraphState → List Names → List Edit
own_edits g paths = map (owning g) paths

-- owned paths with one more
abbrev pub with_own : GraphState → finite.FinMap by_names Owned → Names → finite.FinMap by_names Owned
with_own g owned path = finite.insert owned path (record { maker = maker_in g path; state = Unsure })

-- a graph that owns these paths as well
abbrev pub with_owned : GraphState → List Names → GraphState
with_owned g paths = record g { owned = fold (with_own g) g.owned paths }
