use Rattle.std.proofs.Common.{List, Option, subst, ap, ◌∙◌}
use Rattle.std.specs.Option.{IfNone, IfSome}
use Rattle.tup_rule.specs.declared.rule.Rule.{Rule}
use Rattle.tup_why.specs.Reason.{IsPlanned, IsReasonOf}
use Rattle.tup_why.specs.Shown.{chain_text}
use Rattle.tup_why.specs.Waiting.{HasCircle}
use Rattle.tup_why.specs.declared.reason.Reason.{Reason}
use Rattle.tup_update.proofs.because.chain.Goals as goal

pub returns-in_ok-shown-in-Ok-Some : goal.returns-in_ok-shown-in-Ok-Some
returns-in_ok-shown-in-Ok-Some c = λ g rule are planned.
    let plan = c.args.plan.now in
    let reason = c.in-Ok-Some.reason in (
      reason,
      subst (λ (found : Option Reason). IfSome found (IsReasonOf g plan c.args.number)) c.in-Ok-Some.field-0-is (c.in-Ok-Some.ensures.holds g are),
      c.in_ok-shown-in-Ok-Some.ensures ∙ ap (λ (rules : List Rule). chain_text rules reason) c.as_slice.ensures,
    )

pub returns-in-Ok-None : goal.returns-in-Ok-None
returns-in-Ok-None c = λ g rule are planned.
    let plan = c.args.plan.now in
    subst (λ (found : Option Reason). IfNone found ((one : Rule) → IsPlanned plan c.args.number one → HasCircle g plan)) c.in-Ok-None.field-0-is (c.in-Ok-None.ensures.circle g are) rule planned
