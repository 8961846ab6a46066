use Rattle.std.proofs.Common.{◌≡◌, false, Option, subst, sym}
use Rattle.std.specs.FinMap as finite
use Rattle.tup_path.specs.Name.{Names}
use Rattle.tup_stamp.specs.declared.Stamp.{Stamp}
use Rattle.tup_rule.specs.Rule.{writes}
use Rattle.tup_why.specs.Reason.{IsOtherAsk}
use Rattle.tup_why.proofs.Finding.{each_more, each_of_all, each_of_none, is_here}
use Rattle.tup_why.proofs.cause.other_ask.Goals as goal

pub loop-path-init : goal.loop-path-init
loop-path-init c = each_of_none (λ (ask : Names × Option Stamp). writes c.args.rule.now ask.0 ≡ false → ask.1 ≡ finite.get c.args.nodes.now.seen ask.0)

pub loop-path-preserved : goal.loop-path-preserved
loop-path-preserved c =
    let ask = c.loop-path-item.result in
    each_more (λ (one : Names × Option Stamp). writes c.args.rule.now one.0 ≡ false → one.1 ≡ finite.get c.args.nodes.now.seen one.0) c.args.asks.now c.loop-path.path-index ask ask
    c.loop-path-test.true c.loop-path-item.is c.loop-path.invariant (c.is_other.ensures.same c.if-is_other.false)

pub returns-then-is_other-clause-other : goal.returns-then-is_other-clause-other
returns-then-is_other-clause-other c =
    let ask = c.loop-path-item.result in
    let told = c.is_other.ensures.other c.if-is_other.true in
    subst (IsOtherAsk c.args.nodes.now c.args.rule.now c.args.asks.now) (sym c.in_ok-clone.ensures.cases)
    (ask.1, is_here c.args.asks.now c.loop-path.path-index ask ask c.loop-path-test.true c.loop-path-item.is, told.0, told.1)

pub returns-clause-other : goal.returns-clause-other
returns-clause-other c = λ path given h.
    each_of_all (λ (one : Names × Option Stamp). writes c.args.rule.now one.0 ≡ false → one.1 ≡ finite.get c.args.nodes.now.seen one.0) c.args.asks.now c.loop-path.path-index
    c.loop-path-test.false c.loop-path.invariant (path, given) h
