use Rattle.std.proofs.Common.{sym, subst}
use Rattle.tup_graph.specs.Graph.{GraphState}
use Rattle.tup_readers.specs.Index.{HasNamed}
use Rattle.tup_readers.proofs.Using.{namer_printed}
use Rattle.tup_readers.proofs.indexed.Indexed.near_namers_of.Goals as goal

pub returns-clause-namers : goal.returns-clause-namers
returns-clause-namers c = λ number named.
    c.in_ok-near.ensures.namers number
    (namer_printed c.self.inside.nodes c.self.inside.prints c.self.invariant.0 c.args.path.now number (subst (λ (g : GraphState). HasNamed g number c.args.path.now) (sym c.self.view_is) named))
