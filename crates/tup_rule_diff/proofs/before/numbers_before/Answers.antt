use Rattle.tup_rule_diff.proofs.Looked.{befores_more}
use Rattle.tup_rule_diff.proofs.before.numbers_before.Goals as goal

pub loop-rule-preserved : goal.loop-rule-preserved
loop-rule-preserved c =
    befores_more c.args.nodes.now c.args.rules.now c.loop-rule.rule-index c.rule-item.result c.loop-rule.befores c.push.new.self c.number_before.result c.loop-rule-test.true c.rule-item.is c.loop-rule.invariant
    c.number_before.ensures c.in_ok-push.ensures.ok
