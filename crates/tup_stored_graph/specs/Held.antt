-- A graph that is held over the store of a site (own).
use Rattle.std.specs.Prelude.{ℕ, Bool, ◌&&◌, IsTrue, refl}
use Rattle.std.specs.Coded.{Coded, code_by, coded×, coded_bool}
use Rattle.tup_site.specs.World.{World}
use Rattle.tup_table.specs.Table.{entries_in, is_fresh as is_fresh_table, StandsFor as TableStandsFor, stale as stale_table}
use Rattle.tup_table.specs.declared.table.Table.{Table}
use Rattle.tup_table.specs.contracts.table.Table as of_table
use Rattle.tup_graph.specs.Graph.{GraphState}
use Rattle.tup_graph.specs.contracts.nodes.Nodes as of_nodes
use Rattle.tup_graph.specs.Opening.{IsGraphOf}

-- a table, the nodes, and whether these are whole; they aren't where memory was wanting while they
-- took what the store had
pub record Held : Type 0 where
  pub table : Table
  pub nodes : GraphState
  pub whole : Bool

-- it is stored as its fields are
abbrev pub held_code : Coded Held
held_code =
    code_by (Table × (GraphState × Bool)) (coded× of_table.the_row.coded (coded× of_nodes.the_row.coded coded_bool))
    (λ g. (g.table, (g.nodes, g.whole))) (λ p. record { table = p.0; nodes = p.1.0; whole = p.1.1 }) (λ _. refl)

-- whole nodes are the graph that the entries of the table stand for
abbrev pub IsSound : Held → Type 0
IsSound graph = IsTrue graph.whole → IsGraphOf (entries_in graph.table) graph.nodes

-- whether the graph stands for its store
abbrev pub is_fresh : Held → Bool
is_fresh graph = graph.whole && is_fresh_table graph.table

-- a graph stands for the store of a site: its table does
abbrev pub StandsFor : {S : Type 0} → (S → World) → (S → ℕ) → (S → ℕ → World → Type 0) → Held → S → Type 0
StandsFor world moment left_since graph site = TableStandsFor world moment left_since graph.table site

-- a graph of whose store nothing is known any more
abbrev pub stale : Held → Held
stale graph = record graph { table = stale_table graph.table }
