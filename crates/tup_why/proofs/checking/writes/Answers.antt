use Rattle.std.proofs.Common.{◌≡◌, ◌∙◌, true, sym}
use Rattle.tup_rule.specs.Rule.{writes}
use Rattle.tup_rule.specs.declared.rule.Rule.{Rule}
use Rattle.tup_why.specs.Reason.{IsPlanned}
use Rattle.tup_why.proofs.Checks.{of_none, of_one}
use Rattle.tup_why.proofs.checking.writes.Goals as goal

pub returns-in-Some : goal.returns-in-Some
returns-in-Some c =
    of_one (IsPlanned c.args.plan.now c.args.number) (λ (rule : Rule). writes rule c.args.path.now ≡ true) c.in-Some.rule.now c.in-Some.ensures c.writes.result
    (λ t. sym c.writes.ensures ∙ t, λ wrote. c.writes.ensures ∙ wrote)

pub returns-in-None : goal.returns-in-None
returns-in-None c = of_none (IsPlanned c.args.plan.now c.args.number) (λ (rule : Rule). writes rule c.args.path.now ≡ true) c.in-None.ensures
