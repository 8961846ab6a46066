use Rattle.std.proofs.Common.{arith}
use Rattle.tup_rule_diff.proofs.Placing.{less_more}
use Rattle.tup_rule_diff.proofs.clearing.push_less.Goals as goal

pub rules-preserved : goal.rules-preserved
rules-preserved c =
    let within = c.rules.invariant.0 in
    (omega (arith, within), less_more c.args.count c.args.rules.now c.rules.at c.args.edits.now c.rules.edits c.push_if_goes.new.edits c.rules-test.true within c.rules.invariant.1 c.in_ok-push_if_goes.ensures.ok)
