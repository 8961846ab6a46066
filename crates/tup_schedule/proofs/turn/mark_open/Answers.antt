use Rattle.std.proofs.Common.{subst, arith}
use Rattle.std.proofs.lemmas.List.{take_all}
use Rattle.tup_schedule.proofs.TurnLaws.{AreOpened, opened_none, opened_more}
use Rattle.tup_schedule.proofs.turn.mark_open.Goals as goal

pub loop-at-init : goal.loop-at-init
loop-at-init c = opened_none c.args.core.now c.args.marks.now c.requires.marks c.requires.none

pub mark_if_open-requires-clause-marks : goal.mark_if_open-requires-clause-marks
mark_if_open-requires-clause-marks c = c.loop-at.invariant.marks

pub mark_if_open-requires-clause-place : goal.mark_if_open-requires-clause-place
mark_if_open-requires-clause-place c = λ opened.
    let below = c.requires.places _ opened in
    let same = c.loop-at.invariant.places in
    omega (arith, below, same)

pub loop-at-preserved : goal.loop-at-preserved
loop-at-preserved c =
    opened_more c.args.core.now c.args.marks.now c.loop-at.marks c.mark_if_open.new.marks c.args.numbers.now c.loop-at.at-index c.loop-at-test.true c.loop-at.invariant c.mark_if_open.ensures.marks c.mark_if_open.ensures.places
    c.mark_if_open.ensures.set

pub returns-clause-set : goal.returns-clause-set
returns-clause-set c = (subst (AreOpened c.args.core.now c.args.marks.now c.loop-at.marks) (take_all c.loop-at.at-index c.args.numbers.now (omega arith)) c.loop-at.invariant).set
