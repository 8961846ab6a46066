use Rattle.tup_rule_diff.proofs.Reading.{none_read, one_rule_more, all_read}
use Rattle.tup_rule_diff.proofs.running.readers_of_new.Goals as goal

pub loop-at-init : goal.loop-at-init
loop-at-init c = none_read c.args.led.now c.args.befores.now c.args.rules.now c.new-found.result c.new-found.ensures

pub loop-at-preserved : goal.loop-at-preserved
loop-at-preserved c =
    one_rule_more c.args.led.now c.args.befores.now c.args.rules.now c.loop-at.at c.index-rules-at.result c.loop-at-test.true c.index-rules-at.is c.loop-at.found c.push_if_new.new.found c.loop-at.invariant
    c.in_ok-push_if_new.ensures.readers

pub returns-clause-readers : goal.returns-clause-readers
returns-clause-readers c = all_read c.args.led.now c.args.befores.now c.args.rules.now c.loop-at.at c.loop-at.found c.loop-at-test.false c.requires c.loop-at.invariant
