use Rattle.std.proofs.Common.{◌∙◌, sym}
use Rattle.std.proofs.lemmas.Bool.{true≢false}
use Rattle.tup_scan_diff.proofs.Rooted.{none_turned, turned_here, turned_more}
use Rattle.tup_scan_diff.proofs.present.Present.asks_turned.Goals as goal

pub loop-path-preserved : goal.loop-path-preserved
loop-path-preserved c =
    let ask = c.loop-path-item.result in
    turned_more c.args.self.now c.args.rule.now c.args.asks.now c.loop-path.path-index ask ask c.loop-path-test.true c.loop-path-item.is (λ told. true≢false (sym (c.is_told_turned.ensures.1 told) ∙ c.if-is_told_turned.false)) c.loop-path.invariant

pub returns-then-is_told_turned : goal.returns-then-is_told_turned
returns-then-is_told_turned c =
    let ask = c.loop-path-item.result in
    turned_here c.args.self.now c.args.rule.now c.args.asks.now c.loop-path.path-index ask ask c.loop-path-test.true c.loop-path-item.is (c.is_told_turned.ensures.0 c.if-is_told_turned.true)

pub returns : goal.returns
returns c = none_turned c.args.self.now c.args.rule.now c.args.asks.now c.loop-path.path-index c.loop-path-test.false c.loop-path.invariant
