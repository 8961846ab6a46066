use Rattle.std.proofs.Common.{sym, subst}
use Rattle.tup_graph.specs.Graph.{GraphState}
use Rattle.tup_graph.specs.Prints.{HasPrints}
use Rattle.tup_readers.specs.Suspects.{AreSuspects}
use Rattle.tup_readers.proofs.indexed.take_all_in.Goals as goal

pub returns-clause-prints : goal.returns-clause-prints
returns-clause-prints c = subst (λ (g : GraphState). HasPrints g c.loop-edit.prints) (sym c.in_ok-share_rules.ensures) c.loop-edit.invariant.1

pub returns-clause-suspects : goal.returns-clause-suspects
returns-clause-suspects c = subst (λ (g : GraphState). AreSuspects g.seen g.runs c.loop-edit.suspects) (sym c.in_ok-share_rules.ensures) c.loop-edit.invariant.2
