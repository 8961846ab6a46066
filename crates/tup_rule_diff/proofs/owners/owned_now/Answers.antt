use Rattle.tup_rule_diff.proofs.Owning.{owned_more}
use Rattle.tup_rule_diff.proofs.owners.owned_now.Goals as goal

pub loop-at-preserved : goal.loop-at-preserved
loop-at-preserved c =
    owned_more c.args.rules.now c.loop-at.at c.index-rules-at.result c.args.nodes.now.owned c.loop-at.owned c.add_outputs.new.owned c.in_ok-number_of.field-0 c.as_slice.result.now c.loop-at-test.true c.index-rules-at.is
    c.in_ok-number_of.ensures.number c.as_slice.ensures c.loop-at.invariant c.in_ok-add_outputs.ensures.ok
