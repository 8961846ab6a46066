use Rattle.tup_why.proofs.Checks.{new_reason}
use Rattle.tup_why.proofs.checking.holds.Goals as goal

pub returns-then-is_new : goal.returns-then-is_new
returns-then-is_new c =
    let reason = c.args.reason.now in
    new_reason c.args.nodes.now c.args.plan.now reason.root reason.links c.as_slice-links.result.now c.in-NewRule.first c.goes_on-then-is_new.result c.in-NewRule.is c.as_slice-links.ensures
    (c.is_new.ensures.0 c.if-is_new.true) c.goes_on-then-is_new.ensures
