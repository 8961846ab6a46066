use Rattle.std.proofs.Common.{◌≡◌, ◌∙◌, Option, true, false, refl, sym}
use Rattle.std.proofs.lemmas.Bool.{false≢true}
use Rattle.tup_path.specs.Name.{Names}
use Rattle.tup_stamp.specs.declared.Stamp.{Stamp}
use Rattle.tup_why.specs.Cause.{GivesNone}
use Rattle.tup_why.proofs.Finding.{each_more, each_of_all, each_of_none, is_here}
use Rattle.tup_why.proofs.checking.give_none.Goals as goal

pub loop-path-init : goal.loop-path-init
loop-path-init c = each_of_none (λ (ask : Names × Option Stamp). GivesNone c.args.nodes.now c.args.plan.now c.args.rule.now ask.0)

pub loop-path-preserved : goal.loop-path-preserved
loop-path-preserved c =
    let ask = c.loop-path-item.result in
    each_more (λ (one : Names × Option Stamp). GivesNone c.args.nodes.now c.args.plan.now c.args.rule.now one.0) c.args.asks.now c.loop-path.path-index ask ask
    c.loop-path-test.true c.loop-path-item.is c.loop-path.invariant (c.gives_none.ensures.0 c.if-not-gives_none.false)

pub returns-then-not-gives_none : goal.returns-then-not-gives_none
returns-then-not-gives_none c =
    let ask = c.loop-path-item.result in (
      λ (wrong : false ≡ true). absurd (false≢true wrong),
      λ none. absurd (false≢true (sym c.if-not-gives_none.true
          ∙ c.gives_none.ensures.1 (none ask.0 ask.1 (is_here c.args.asks.now c.loop-path.path-index ask ask c.loop-path-test.true c.loop-path-item.is)))),
    )

pub returns : goal.returns
returns c = (
  λ _ path given h.
      each_of_all (λ (one : Names × Option Stamp). GivesNone c.args.nodes.now c.args.plan.now c.args.rule.now one.0) c.args.asks.now c.loop-path.path-index c.loop-path-test.false c.loop-path.invariant (path, given) h,
  λ _. refl,
)
