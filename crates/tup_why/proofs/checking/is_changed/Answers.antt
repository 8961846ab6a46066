use Rattle.tup_rule.specs.declared.rule.Rule.{Rule}
use Rattle.tup_why.specs.Reason.{IsChanged, IsPlanned}
use Rattle.tup_why.proofs.Checks.{of_none, of_one}
use Rattle.tup_why.proofs.checking.is_changed.Goals as goal

pub returns-in-Some : goal.returns-in-Some
returns-in-Some c =
    of_one (IsPlanned c.args.plan.now c.args.number) (λ (rule : Rule). IsChanged c.args.nodes.now c.args.number rule c.args.path.now) c.in-Some.rule.now c.in-Some.ensures c.has_changed.result c.has_changed.ensures

pub returns-in-None : goal.returns-in-None
returns-in-None c = of_none (IsPlanned c.args.plan.now c.args.number) (λ (rule : Rule). IsChanged c.args.nodes.now c.args.number rule c.args.path.now) c.in-None.ensures
