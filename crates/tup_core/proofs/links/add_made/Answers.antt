use Rattle.tup_core.proofs.LinksLaws.{adds_nothing, adds_more}
use Rattle.tup_core.proofs.links.add_made.Goals as goal

pub loop-output-init : goal.loop-output-init
loop-output-init c = adds_nothing c.args.made.now c.args.at c.args.makers.now

pub loop-output-preserved : goal.loop-output-preserved
loop-output-preserved c =
    adds_more c.args.made.now c.args.outputs.now c.args.at c.loop-output.output-index c.output-item.result c.args.makers.now c.loop-output.makers c.add_one.new.makers c.loop-output-test.true c.output-item.is c.loop-output.invariant
    c.in_ok-add_one.ensures
