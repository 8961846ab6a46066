use Rattle.tup_scan_diff.specs.Present.{graph_of}
use Rattle.tup_scan_diff.proofs.Rooted.{other_here, none_other}
use Rattle.tup_scan_diff.proofs.present.Present.asks_other.Goals as goal

pub returns-then-is_other : goal.returns-then-is_other
returns-then-is_other c =
    let ask = c.loop-path-item.result in
    other_here (graph_of c.args.self.now) c.args.rule.now c.args.asks.now c.loop-path.path-index ask ask c.loop-path-test.true c.loop-path-item.is (c.is_other.ensures.0 c.if-is_other.true)

pub returns : goal.returns
returns c = none_other (graph_of c.args.self.now) c.args.rule.now c.args.asks.now c.loop-path.path-index c.loop-path-test.false c.loop-path.invariant
