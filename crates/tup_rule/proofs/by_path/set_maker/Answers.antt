use Rattle.tup_rule.proofs.Making.{sets_more}
use Rattle.tup_rule.proofs.by_path.set_maker.Goals as goal

pub loop-output-preserved : goal.loop-output-preserved
loop-output-preserved c =
    sets_more c.args.outputs.now c.args.at c.loop-output.output-index c.output-item.result c.args.makers.now c.loop-output.makers c.loop-output.invariant c.loop-output-test.true c.output-item.is
    c.in_ok-clone.field-0 c.insert.new.self c.in_ok-clone.ensures.cases c.in_ok-insert.ensures.updates.0
