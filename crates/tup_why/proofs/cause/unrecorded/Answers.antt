use Rattle.std.proofs.Common.{◌≡◌, ℕ, None, refl, slice_index}
use Rattle.std.specs.FinMap as finite
use Rattle.tup_why.proofs.Finding.{each_more, each_of_all, each_of_none, is_here}
use Rattle.tup_why.proofs.cause.unrecorded.Goals as goal

pub loop-number-init : goal.loop-number-init
loop-number-init c = each_of_none (λ (number : ℕ). finite.get c.args.nodes.now.runs number ≡ None → ⊥)

pub loop-number-preserved : goal.loop-number-preserved
loop-number-preserved c =
    let at = c.loop-number.number-index in
    each_more (λ (number : ℕ). finite.get c.args.nodes.now.runs number ≡ None → ⊥) c.args.numbers.now at (slice_index c.args.numbers.now at) 0 c.loop-number-test.true refl
    c.loop-number.invariant (c.is_recorded.ensures.yes c.if-not-is_recorded.false)

pub returns-then-not-is_recorded : goal.returns-then-not-is_recorded
returns-then-not-is_recorded c =
    let at = c.loop-number.number-index in
    (is_here c.args.numbers.now at (slice_index c.args.numbers.now at) 0 c.loop-number-test.true refl, c.is_recorded.ensures.no c.if-not-is_recorded.true)

pub returns : goal.returns
returns c = each_of_all (λ (number : ℕ). finite.get c.args.nodes.now.runs number ≡ None → ⊥) c.args.numbers.now c.loop-number.number-index c.loop-number-test.false c.loop-number.invariant
