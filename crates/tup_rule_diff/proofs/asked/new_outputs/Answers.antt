use Rattle.std.proofs.Common.{arith}
use Rattle.std.proofs.lemmas.Option.{slice_get_within}
use Rattle.tup_rule_diff.proofs.Asking.{rule_more}
use Rattle.tup_rule_diff.proofs.asked.new_outputs.Goals as goal

pub loop-at-init : goal.loop-at-init
loop-at-init c = λ at rule path below there new. absurd (omega (arith, below))

pub loop-at-preserved : goal.loop-at-preserved
loop-at-preserved c =
    rule_more c.args.rules.now c.args.befores.now c.loop-at.at c.index-rules-at.result c.loop-at.outputs c.add_if_new.new.outputs c.loop-at-test.true c.index-rules-at.is c.loop-at.invariant c.in_ok-add_if_new.ensures.added

pub returns-clause-outputs : goal.returns-clause-outputs
returns-clause-outputs c = λ at rule path there new.
    let within = slice_get_within c.args.rules.now at rule there in
    let end = c.loop-at-test.false in
    c.loop-at.invariant at rule path (omega (arith, within, end)) there new
