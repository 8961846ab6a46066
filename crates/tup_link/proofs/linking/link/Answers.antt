use Rattle.std.proofs.Common.{◌≡◌, Err, arith, ◌∙◌}
use Rattle.tup_link.proofs.Together.{rules_are, early_none, cause_early, cause_circle}
use Rattle.tup_link.proofs.linking.link.Goals as goal

pub returns-in_err-rules-clause-cause : goal.returns-in_err-rules-clause-cause
returns-in_err-rules-clause-cause c =
    let is : c.from_residual-in_err-rules.result ≡ Err c.in_err-rules.field-0.0 = grind arith in
    rw is (cause_early c.args.readings.now c.deref.result.now (c.deref.ensures.value ∙ c.in_ok-all.ensures) _ c.in_err-rules.ensures.fault)

pub returns-in_err-no_circle-clause-cause : goal.returns-in_err-no_circle-clause-cause
returns-in_err-no_circle-clause-cause c =
    let is : c.from_residual-in_err-no_circle.result ≡ Err c.in_err-no_circle.field-0.0 = grind arith in
    rw is (cause_circle c.args.readings.now c.deref.result.now (c.deref.ensures.value ∙ c.in_ok-all.ensures) c.in_ok-rules.rules c.as_slice.result.now _ c.in_ok-rules.ensures.fault c.in_ok-rules.ensures.rules c.as_slice.ensures c.in_err-no_circle.ensures.fault)

pub returns-clause-rules : goal.returns-clause-rules
returns-clause-rules c = rules_are c.args.readings.now c.deref.result.now (c.deref.ensures.value ∙ c.in_ok-all.ensures) c.in_ok-rules.rules c.in_ok-rules.ensures.rules

pub returns-clause-early : goal.returns-clause-early
returns-clause-early c = early_none c.args.readings.now c.deref.result.now (c.deref.ensures.value ∙ c.in_ok-all.ensures) c.in_ok-rules.ensures.fault
