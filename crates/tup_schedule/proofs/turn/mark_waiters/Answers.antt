use Rattle.std.proofs.Common.{◌<◌, ◌∙◌, ℕ, List, get_or, refl, subst, sym, arith}
use Rattle.std.proofs.lemmas.List.{take_all}
use Rattle.tup_clean.proofs.Counting.{count_of-here}
use Rattle.tup_schedule.specs.Turn.{IsTold}
use Rattle.tup_schedule.proofs.TurnLaws.{told_start, told_next}
use Rattle.tup_schedule.proofs.turn.mark_waiters.Goals as goal

pub loop-at-init : goal.loop-at-init
loop-at-init c = record { marks = c.requires.marks; same = refl; told = told_start c.args.core.now c.args.marks.now }

pub mark_one-requires-clause-marks : goal.mark_one-requires-clause-marks
mark_one-requires-clause-marks c = c.loop-at.invariant.marks

pub mark_one-requires-clause-place : goal.mark_one-requires-clause-place
mark_one-requires-clause-place c =
    let below = c.requires.places _ (count_of-here c.args.places.now c.loop-at.at-index c.loop-at-test.true) in
    let same = c.loop-at.invariant.same in
    omega (arith, below, same)

pub mark_one-requires-clause-list : goal.mark_one-requires-clause-list
mark_one-requires-clause-list c = c.requires.lists _ (count_of-here c.args.places.now c.loop-at.at-index c.loop-at-test.true)

pub mark_one-requires-clause-behind : goal.mark_one-requires-clause-behind
mark_one-requires-clause-behind c = λ next at some. subst (λ (n : ℕ). at < n) (sym c.loop-at.invariant.same) (c.requires.behind next at some)

pub loop-at-preserved : goal.loop-at-preserved
loop-at-preserved c = record {
  marks = c.mark_one.ensures.marks;
  same = c.mark_one.ensures.places ∙ c.loop-at.invariant.same;
  told =
      told_next c.args.core.now c.args.marks.now c.loop-at.marks c.mark_one.new.marks c.args.places.now c.loop-at.at-index (get_or c.args.places.now c.loop-at.at-index 0) c.loop-at-test.true refl c.loop-at.invariant.told
      c.mark_one.ensures.told;
}

pub returns-clause-marks : goal.returns-clause-marks
returns-clause-marks c = c.loop-at.invariant.marks

pub returns-clause-places : goal.returns-clause-places
returns-clause-places c = c.loop-at.invariant.same

pub returns-clause-told : goal.returns-clause-told
returns-clause-told c =
    subst (λ (l : List ℕ). (at : ℕ) → IsTold c.args.core.now l c.args.marks.now c.loop-at.marks at) (take_all c.loop-at.at-index c.args.places.now c.loop-at-test.false) c.loop-at.invariant.told
