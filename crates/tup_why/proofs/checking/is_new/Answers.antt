use Rattle.std.proofs.Common.{◌≡◌, None, not}
use Rattle.std.specs.FinMap as finite
use Rattle.tup_rule.specs.declared.rule.Rule.{Rule}
use Rattle.tup_why.specs.Reason.{IsPlanned}
use Rattle.tup_why.proofs.Checks.{not_recorded, of_none, of_one}
use Rattle.tup_why.proofs.checking.is_new.Goals as goal

pub returns-in-Some : goal.returns-in-Some
returns-in-Some c =
    of_one (IsPlanned c.args.plan.now c.args.number) (λ (rule : Rule). finite.get c.args.nodes.now.runs c.args.number ≡ None) c.in-Some.field-0.now c.in-Some.ensures (not c.is_recorded.result)
    (not_recorded c.is_recorded.result (finite.get c.args.nodes.now.runs c.args.number) c.is_recorded.ensures.yes c.is_recorded.ensures.no)

pub returns-in-None : goal.returns-in-None
returns-in-None c = of_none (IsPlanned c.args.plan.now c.args.number) (λ (rule : Rule). finite.get c.args.nodes.now.runs c.args.number ≡ None) c.in-None.ensures
