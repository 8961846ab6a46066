use Rattle.std.proofs.Common.{Bool, ◌==◌, get_or, refl, ◌∙◌, ap, arith}
use Rattle.std.specs.Prelude.{if◌then◌else◌}
use Rattle.tup_clean.proofs.Counting.{count_of-here}
use Rattle.tup_schedule.specs.Marks.{is_marked}
use Rattle.tup_schedule.proofs.TurnLaws.{told_none, told_more, told_all}
use Rattle.tup_schedule.proofs.turn.mark_all.Goals as goal

pub loop-at-init : goal.loop-at-init
loop-at-init c = told_none c.args.core.now c.args.marks.now c.requires.marks

pub set-requires-clause-marks : goal.set-requires-clause-marks
set-requires-clause-marks c = c.loop-at.invariant.marks

pub set-requires-clause-place : goal.set-requires-clause-place
set-requires-clause-place c =
    let below = c.requires.places _ (count_of-here c.args.places.now c.loop-at.at-index c.loop-at-test.true) in
    let same = c.loop-at.invariant.same in
    omega (arith, below, same)

pub loop-at-preserved : goal.loop-at-preserved
loop-at-preserved c =
    let place = get_or c.args.places.now c.loop-at.at-index 0 in
    told_more c.args.core.now c.args.marks.now c.loop-at.marks c.set.new.self c.args.places.now c.loop-at.at-index place c.loop-at-test.true refl c.loop-at.invariant c.set.ensures.marks c.set.ensures.places
    (λ at. c.set.ensures.set at ∙ ap (λ (b : Bool). if at == place then b else is_marked c.loop-at.marks at) c.is_open.ensures)

pub returns-clause-marks : goal.returns-clause-marks
returns-clause-marks c = c.loop-at.invariant.marks

pub returns-clause-places : goal.returns-clause-places
returns-clause-places c = c.loop-at.invariant.same

pub returns-clause-set : goal.returns-clause-set
returns-clause-set c = (told_all c.args.core.now c.args.marks.now c.loop-at.marks c.args.places.now c.loop-at.at-index c.loop-at-test.false c.loop-at.invariant).set
