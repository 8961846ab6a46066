-- How a refusal of the table is told (own).
use Rattle.tup_table.specs.declared.fault.TableFault.{TableFault}
use Rattle.tup_table.specs.declared.fault.TableFault.TheVariants as table
use Rattle.tup_graph.specs.declared.fault.GraphFault.{GraphFault}
use Rattle.tup_graph.specs.declared.fault.GraphFault.TheVariants as graph

-- the graph is refused as the table is
abbrev pub fault_of : TableFault → GraphFault
fault_of table.NotThere = graph.NotThere
fault_of (table.BadStore offset) = graph.BadStore offset
fault_of table.Site = graph.Site
fault_of table.Full = graph.Full
fault_of table.Memory = graph.Memory
