use Rattle.std.proofs.Common.{sym, subst}
use Rattle.tup_graph.specs.Graph.{GraphState}
use Rattle.tup_graph.specs.Prints.{HasPrints}
use Rattle.tup_readers.specs.Suspects.{AreSuspects}
use Rattle.tup_readers.proofs.indexed.Indexed.empty.Goals as goal

pub invariant_of-result : goal.invariant_of-result
invariant_of-result c = (
  subst (λ (g : GraphState). HasPrints g c.in_ok-prints.prints) (sym c.empty.ensures) c.in_ok-prints.ensures,
  subst (λ (g : GraphState). AreSuspects g.seen g.runs c.new-2.result) (sym c.empty.ensures) c.new-2.ensures,
)
