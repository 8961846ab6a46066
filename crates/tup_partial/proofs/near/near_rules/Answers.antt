use Rattle.std.proofs.Common.{◌<◌, length, subst}
use Rattle.std.proofs.lemmas.Result.{IfOk-weaker}
use Rattle.tup_graph.specs.Graph.{GraphState}
use Rattle.tup_closure.specs.Steps.{IsListOf}
use Rattle.tup_partial.proofs.Naming.{all_near, few_near}
use Rattle.tup_partial.proofs.near.near_rules.Goals as goal

pub returns-then-numbers-gt-FEW-clause-near : goal.returns-then-numbers-gt-FEW-clause-near
returns-then-numbers-gt-FEW-clause-near c =
    IfOk-weaker c.all_rules.result _ _ (λ near all. all_near c.args.graph.now c.args.numbers.now near
    (subst (λ (g : GraphState). IsListOf (λ number. number < length g.rules) near) c.nodes.ensures all)) c.all_rules.ensures.all

pub returns-else-numbers-gt-FEW-clause-near : goal.returns-else-numbers-gt-FEW-clause-near
returns-else-numbers-gt-FEW-clause-near c =
    IfOk-weaker c.namers.result _ _ (λ near few. few_near c.args.graph.now c.args.numbers.now near few) c.namers.ensures.namers
