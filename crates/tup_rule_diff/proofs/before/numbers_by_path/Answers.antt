use Rattle.tup_rule_diff.proofs.Looked.{numbers_more}
use Rattle.tup_rule_diff.proofs.before.numbers_by_path.Goals as goal

pub loop-at-init : goal.loop-at-init
loop-at-init c = λ path. c.new-numbers.ensures.lists path

pub loop-at-preserved : goal.loop-at-preserved
loop-at-preserved c =
    numbers_more c.args.rules.now c.loop-at.at c.index-rules-at.result c.loop-at.numbers c.add.new.self c.path_of.result.now c.in_ok-number_of.field-0 c.loop-at-test.true c.index-rules-at.is c.path_of.ensures c.in_ok-number_of.ensures.number
    c.loop-at.invariant c.in_ok-add.ensures.ok
