use Rattle.std.proofs.Common.{◌∙◌, Option, sym}
use Rattle.tup_stamp.specs.declared.Stamp.{Stamp}
use Rattle.tup_readers.proofs.Keeping.{true_false}
use Rattle.tup_readers.proofs.Suspecting.{none_other, other_here}
use Rattle.tup_readers.proofs.suspects.asked_other.Goals as goal

pub returns-then-not-sees : goal.returns-then-not-sees
returns-then-not-sees c =
    let ask = c.loop-path-item.result in
    other_here (λ (given : Option Stamp). given) c.args.files.now.seen c.args.asks.now c.loop-path.path-index ask ask c.loop-path-test.true c.loop-path-item.is (λ same. true_false (sym (c.sees.ensures.1 same) ∙ c.if-not-sees.true))

pub returns : goal.returns
returns c = none_other (λ (given : Option Stamp). given) c.args.files.now.seen c.args.asks.now c.loop-path.path-index c.loop-path-test.false c.loop-path.invariant
