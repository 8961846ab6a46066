use Rattle.tup_rule.specs.declared.rule.Rule.{Rule}
use Rattle.tup_why.specs.Reason.{IsPlanned, IsUnfinished}
use Rattle.tup_why.proofs.Checks.{of_none, of_one}
use Rattle.tup_why.proofs.checking.is_unfinished.Goals as goal

pub returns-in-Some : goal.returns-in-Some
returns-in-Some c =
    of_one (IsPlanned c.args.plan.now c.args.number) (λ (rule : Rule). IsUnfinished c.args.nodes.now c.args.plan.now c.args.number rule) c.in-Some.rule.now c.in-Some.ensures c.gives_no_reason.result c.gives_no_reason.ensures

pub returns-in-None : goal.returns-in-None
returns-in-None c = of_none (IsPlanned c.args.plan.now c.args.number) (λ (rule : Rule). IsUnfinished c.args.nodes.now c.args.plan.now c.args.number rule) c.in-None.ensures
