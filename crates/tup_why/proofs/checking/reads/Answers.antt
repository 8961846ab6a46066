use Rattle.tup_rule.specs.declared.rule.Rule.{Rule}
use Rattle.tup_graph.specs.Above.{HasAsked}
use Rattle.tup_why.specs.Reason.{IsPlanned}
use Rattle.tup_why.proofs.Checks.{of_none, of_one}
use Rattle.tup_why.proofs.checking.reads.Goals as goal

pub returns-in-Some : goal.returns-in-Some
returns-in-Some c =
    of_one (IsPlanned c.args.plan.now c.args.number) (λ (rule : Rule). HasAsked c.args.nodes.now c.args.number c.args.path.now) c.in-Some.field-0.now c.in-Some.ensures c.has_asked.result c.has_asked.ensures

pub returns-in-None : goal.returns-in-None
returns-in-None c = of_none (IsPlanned c.args.plan.now c.args.number) (λ (rule : Rule). HasAsked c.args.nodes.now c.args.number c.args.path.now) c.in-None.ensures
