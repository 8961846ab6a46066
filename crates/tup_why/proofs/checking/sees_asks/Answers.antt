use Rattle.std.proofs.Common.{◌≡◌, Option, true, false, refl}
use Rattle.std.specs.FinMap as finite
use Rattle.std.proofs.lemmas.Bool.{false≢true}
use Rattle.tup_path.specs.Name.{Names}
use Rattle.tup_stamp.specs.declared.Stamp.{Stamp}
use Rattle.tup_rule.specs.Rule.{writes}
use Rattle.tup_why.proofs.Finding.{each_more, each_of_all, each_of_none, is_here}
use Rattle.tup_why.proofs.checking.sees_asks.Goals as goal

pub loop-path-init : goal.loop-path-init
loop-path-init c = each_of_none (λ (ask : Names × Option Stamp). writes c.args.rule.now ask.0 ≡ false → ask.1 ≡ finite.get c.args.nodes.now.seen ask.0)

pub loop-path-preserved : goal.loop-path-preserved
loop-path-preserved c =
    let ask = c.loop-path-item.result in
    each_more (λ (one : Names × Option Stamp). writes c.args.rule.now one.0 ≡ false → one.1 ≡ finite.get c.args.nodes.now.seen one.0) c.args.asks.now c.loop-path.path-index ask ask
    c.loop-path-test.true c.loop-path-item.is c.loop-path.invariant (c.is_other.ensures.same c.if-is_other.false)

pub returns-then-is_other : goal.returns-then-is_other
returns-then-is_other c =
    let ask = c.loop-path-item.result in
    let told = c.is_other.ensures.other c.if-is_other.true in (
      λ (wrong : false ≡ true). absurd (false≢true wrong),
      λ sees. absurd (told.1 (sees ask.0 ask.1 (is_here c.args.asks.now c.loop-path.path-index ask ask c.loop-path-test.true c.loop-path-item.is) told.0)),
    )

pub returns : goal.returns
returns c = (
  λ _ path given h.
      each_of_all (λ (one : Names × Option Stamp). writes c.args.rule.now one.0 ≡ false → one.1 ≡ finite.get c.args.nodes.now.seen one.0) c.args.asks.now c.loop-path.path-index
      c.loop-path-test.false c.loop-path.invariant (path, given) h,
  λ _. refl,
)
