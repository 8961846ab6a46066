use Rattle.std.proofs.Common.{◌≡◌, Option, true, false, refl, subst}
use Rattle.std.specs.Prelude.{Contains}
use Rattle.std.specs.FinMap as finite
use Rattle.std.proofs.lemmas.Bool.{false≢true}
use Rattle.tup_path.specs.Name.{Names}
use Rattle.tup_stamp.specs.declared.Stamp.{Stamp}
use Rattle.tup_rule.specs.Rule.{writes}
use Rattle.tup_why.proofs.Finding.{each_more, each_of_all, each_of_none, is_here}
use Rattle.tup_why.proofs.checking.is_other_ask.Goals as goal

pub loop-asked-init : goal.loop-asked-init
loop-asked-init c =
    let path = c.args.path.now in
    each_of_none (λ (ask : Names × Option Stamp). ask.0 ≡ path → writes c.args.rule.now path ≡ false → ask.1 ≡ finite.get c.args.nodes.now.seen path)

pub returns-then-is_other_at : goal.returns-then-is_other_at
returns-then-is_other_at c =
    let ask = c.loop-asked-item.result in
    let told = c.is_other_at.ensures.other c.if-is_other_at.true in (
      λ _. (
        ask.1,
        subst (λ (p : Names). Contains c.args.asks.now (p, ask.1)) told.0 (is_here c.args.asks.now c.loop-asked.asked-index ask ask c.loop-asked-test.true c.loop-asked-item.is),
        told.1,
        told.2,
      ),
      λ _. refl,
    )

pub loop-asked-preserved : goal.loop-asked-preserved
loop-asked-preserved c =
    let ask = c.loop-asked-item.result in
    let path = c.args.path.now in
    each_more (λ (one : Names × Option Stamp). one.0 ≡ path → writes c.args.rule.now path ≡ false → one.1 ≡ finite.get c.args.nodes.now.seen path) c.args.asks.now c.loop-asked.asked-index ask ask
    c.loop-asked-test.true c.loop-asked-item.is c.loop-asked.invariant (c.is_other_at.ensures.same c.if-is_other_at.false)

pub returns : goal.returns
returns c =
    let path = c.args.path.now in (
      λ (wrong : false ≡ true). absurd (false≢true wrong),
      λ (given, h, unwritten, differs). absurd (differs (each_of_all (λ (one : Names × Option Stamp). one.0 ≡ path → writes c.args.rule.now path ≡ false → one.1 ≡ finite.get c.args.nodes.now.seen path)
          c.args.asks.now c.loop-asked.asked-index c.loop-asked-test.false c.loop-asked.invariant (path, given) h refl unwritten)),
    )
