use Rattle.tup_rule_line.proofs.Sets.{knows_more}
use Rattle.tup_rule_line.proofs.made.Made.with.Goals as goal

pub invariant_of-result : goal.invariant_of-result
invariant_of-result c =
    let kept = c.self.inside in
    rw (c.in_ok-push.ensures.ok, c.in_ok-outputs.ensures, c.as_slice.ensures) (knows_more kept.outputs kept.drafts c.args.draft c.self.invariant)
