use Rattle.std.proofs.Common.{sym, ◌∙◌}
use Rattle.tup_graph.proofs.Opened.{refused_unfit, took}
use Rattle.tup_graph.proofs.nodes.Nodes.take.Goals as goal

pub returns-in-Ok-clause-graph : goal.returns-in-Ok-clause-graph
returns-in-Ok-clause-graph c =
    took _ c.args.self.now (c.args.key.now, c.args.entry.now) c.in-Ok.found c.hold_printed.result c.in-Ok.ensures.found (sym c.fits.ensures ∙ c.if-fits.true) c.hold_printed.ensures.graph
    c.hold_printed.ensures.err

pub returns-in-Ok-2-clause-graph : goal.returns-in-Ok-2-clause-graph
returns-in-Ok-2-clause-graph c =
    refused_unfit c.args.self.now (c.args.key.now, c.args.entry.now) c.in-Ok.found (sym c.fits.ensures ∙ c.if-fits.false) c.in-Ok.ensures.only
