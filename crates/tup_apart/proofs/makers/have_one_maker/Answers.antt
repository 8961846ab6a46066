use Rattle.std.proofs.Common.{◌≡◌, ℕ, false, true, refl, slice_index, sym, ◌∙◌, subst, take, arith}
use Rattle.std.specs.Prelude.{All}
use Rattle.std.proofs.lemmas.Bool.{false≢true}
use Rattle.std.proofs.lemmas.List.{take_all}
use Rattle.std.proofs.lemmas.List.Elements.{All-push}
use Rattle.tup_closure.proofs.Asked.{taken}
use Rattle.tup_apart.specs.Makers.{AreOnlyMakers, MakesOnly}
use Rattle.tup_apart.proofs.makers.have_one_maker.Goals as goal

pub loop-number-init : goal.loop-number-init
loop-number-init c = λ k d less. absurd (omega (arith, less))

pub loop-number-preserved : goal.loop-number-preserved
loop-number-preserved c =
    let Only : ℕ → Type 0 = MakesOnly c.args.makers.now c.args.rules.now in
    let numbers = c.args.numbers.now in
    let at = c.loop-number.number-index in
    let number = slice_index numbers at in
    subst (All Only) (sym (taken numbers at number 0 c.loop-number-test.true refl))
    (All-push Only (take at numbers) number c.loop-number.invariant (c.makes_only.ensures.0 c.if-not-makes_only.false))

pub returns-then-not-makes_only : goal.returns-then-not-makes_only
returns-then-not-makes_only c = (
  λ (wrong : false ≡ true). absurd (false≢true wrong),
  λ only. absurd (false≢true (sym c.if-not-makes_only.true ∙ c.makes_only.ensures.1 (only c.loop-number.number-index 0 c.loop-number-test.true))),
)

pub returns : goal.returns
returns c =
    let all : take c.loop-number.number-index c.args.numbers.now ≡ c.args.numbers.now = take_all c.loop-number.number-index c.args.numbers.now c.loop-number-test.false in
    (λ _. subst (AreOnlyMakers c.args.makers.now c.args.rules.now) all c.loop-number.invariant, λ _. refl)
