use Rattle.tup_core.proofs.StepLaws.{fits_kept, fits_other}
use Rattle.tup_core.proofs.ending.may_end.Goals as goal

pub returns-then-same_verdict : goal.returns-then-same_verdict
returns-then-same_verdict c =
    fits_kept c.args.rule.now c.args.denied.now c.in-Some.field-0-0 c.in-Some.kept c.args.verdict.now c.args.writes.now c.same_verdict.result c.is_empty.result c.in-Some.is c.same_verdict.ensures c.if-same_verdict.true c.is_empty.ensures

pub returns-else-same_verdict : goal.returns-else-same_verdict
returns-else-same_verdict c =
    fits_other c.args.rule.now c.args.denied.now c.in-Some.field-0-0 c.in-Some.kept c.args.verdict.now c.args.writes.now c.same_verdict.result c.in-Some.is c.same_verdict.ensures c.if-same_verdict.false
