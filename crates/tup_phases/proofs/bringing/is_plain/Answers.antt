use Rattle.std.proofs.Common.{subst}
use Rattle.tup_table.specs.Table.{entries_in}
use Rattle.tup_graph.specs.Graph.{GraphState}
use Rattle.tup_graph.specs.Opening.{IsGraphOf}
use Rattle.tup_refresh.specs.Idle.{IsIdle}
use Rattle.tup_phases.proofs.bringing.is_plain.Goals as goal

pub returns-clause-idle : goal.returns-clause-idle
returns-clause-idle c = λ is. subst (λ (g : GraphState). IsIdle g c.args.config.now) c.nodes.ensures.value (c.is_idle.ensures is)

pub returns-clause-graph : goal.returns-clause-graph
returns-clause-graph c = λ fresh. subst (IsGraphOf (entries_in c.args.graph.now.table)) c.nodes.ensures.value (c.nodes.ensures.graph fresh)
