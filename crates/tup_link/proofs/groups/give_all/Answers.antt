use Rattle.tup_link.proofs.Gathering.{gives_none, gives_more}
use Rattle.tup_link.proofs.groups.give_all.Goals as goal

pub loop-path-init : goal.loop-path-init
loop-path-init c = gives_none c.args.group.now c.args.groups.now

pub loop-path-preserved : goal.loop-path-preserved
loop-path-preserved c =
    gives_more c.args.group.now c.args.paths.now c.loop-path.path-index c.path-item.result c.args.groups.now c.loop-path.groups c.give_one.new.groups c.loop-path-test.true c.path-item.is c.loop-path.invariant
    c.in_ok-give_one.ensures
