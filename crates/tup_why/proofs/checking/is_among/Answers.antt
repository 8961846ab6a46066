use Rattle.std.proofs.Common.{◌≡◌, ◌∙◌, Option, true, false, refl, sym, subst}
use Rattle.std.specs.Prelude.{Contains}
use Rattle.std.proofs.lemmas.Bool.{false≢true}
use Rattle.tup_path.specs.Name.{Names}
use Rattle.tup_path.proofs.Same.{same_path-decides}
use Rattle.tup_stamp.specs.declared.Stamp.{Stamp}
use Rattle.tup_why.proofs.Finding.{each_more, each_of_all, each_of_none, is_here}
use Rattle.tup_why.proofs.checking.is_among.Goals as goal

pub loop-asked-init : goal.loop-asked-init
loop-asked-init c = each_of_none (λ (ask : Names × Option Stamp). ask.0 ≡ c.args.path.now → ⊥)

pub returns-then-eq : goal.returns-then-eq
returns-then-eq c =
    let ask = c.loop-asked-item.result in
    let path = c.args.path.now in
    let same : ask.0 ≡ path = (same_path-decides ask.0 path).0 (sym c.eq.ensures ∙ c.if-eq.true) in (
      λ _. (ask.1, subst (λ (p : Names). Contains c.args.asks.now (p, ask.1)) same (is_here c.args.asks.now c.loop-asked.asked-index ask ask c.loop-asked-test.true c.loop-asked-item.is)),
      λ _. refl,
    )

pub loop-asked-preserved : goal.loop-asked-preserved
loop-asked-preserved c =
    let ask = c.loop-asked-item.result in
    let path = c.args.path.now in
    each_more (λ (one : Names × Option Stamp). one.0 ≡ path → ⊥) c.args.asks.now c.loop-asked.asked-index ask ask c.loop-asked-test.true c.loop-asked-item.is c.loop-asked.invariant
    (λ same. false≢true (sym c.if-eq.false ∙ c.eq.ensures ∙ (same_path-decides ask.0 path).1 same))

pub returns : goal.returns
returns c =
    let path = c.args.path.now in (
      λ (wrong : false ≡ true). absurd (false≢true wrong),
      λ (given, h). absurd (each_of_all (λ (one : Names × Option Stamp). one.0 ≡ path → ⊥) c.args.asks.now c.loop-asked.asked-index c.loop-asked-test.false c.loop-asked.invariant (path, given) h refl),
    )
