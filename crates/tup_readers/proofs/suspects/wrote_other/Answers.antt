use Rattle.std.proofs.Common.{◌∙◌, Some, sym}
use Rattle.tup_readers.proofs.Keeping.{true_false}
use Rattle.tup_readers.proofs.Suspecting.{none_other, other_here}
use Rattle.tup_readers.proofs.suspects.wrote_other.Goals as goal

pub returns-then-not-sees : goal.returns-then-not-sees
returns-then-not-sees c =
    let one = c.loop-path-item.result in
    other_here Some c.args.files.now.seen c.args.writes.now c.loop-path.path-index one one c.loop-path-test.true c.loop-path-item.is (λ same. true_false (sym (c.sees.ensures.1 same) ∙ c.if-not-sees.true))

pub returns : goal.returns
returns c = none_other Some c.args.files.now.seen c.args.writes.now c.loop-path.path-index c.loop-path-test.false c.loop-path.invariant
