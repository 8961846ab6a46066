use Rattle.std.proofs.Common.{sym, ◌∙◌, subst}
use Rattle.std.proofs.lemmas.Bool.{false≢true}
use Rattle.tup_graph.specs.Graph.{GraphState}
use Rattle.tup_apart.specs.Run.{MayRun}
use Rattle.tup_apart.proofs.Running.{as_another}
use Rattle.tup_apart.proofs.plan.plan_over.Goals as goal

pub returns-else-branch-clause-none : goal.returns-else-branch-clause-none
returns-else-branch-clause-none c = λ _ plan may.
    let mine = c.in_ok-plan.plan in
    false≢true (sym c.if-branch.false ∙ c.in_ok-may_run.ensures.1
    (subst (λ (g : GraphState). MayRun g mine) (sym c.nodes.ensures.value) (as_another c.args.graph.now.nodes mine c.in_ok-plan.ensures.planned plan may)))
