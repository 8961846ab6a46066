use Rattle.std.proofs.Common.{◌==◌, ◌∙◌, Bool, sym, ap, arith}
use Rattle.std.specs.Prelude.{if◌then◌else◌}
use Rattle.tup_schedule.specs.Marks.{is_marked}
use Rattle.tup_schedule.proofs.TurnLaws.{told_alone, told_with}
use Rattle.tup_schedule.proofs.turn.mark_one.Goals as goal

pub set-requires-clause-marks : goal.set-requires-clause-marks
set-requires-clause-marks c = c.requires.marks

pub set-requires-clause-place : goal.set-requires-clause-place
set-requires-clause-place c = c.requires.place

pub returns-then-not-passes_on-clause-told : goal.returns-then-not-passes_on-clause-told
returns-then-not-passes_on-clause-told c =
    told_alone c.args.core.now c.args.marks.now c.set.new.self c.args.place (λ at. c.set.ensures.set at ∙ ap (λ (b : Bool). if at == c.args.place then b else is_marked c.args.marks.now at) c.is_open.ensures) (sym c.passes_on.ensures ∙ c.if-not-passes_on.true)

pub waiters-requires : goal.waiters-requires
waiters-requires c = c.requires.list

pub mark_all-requires-clause-places : goal.mark_all-requires-clause-places
mark_all-requires-clause-places c = λ at some.
    let same = c.set.ensures.places in
    let below = c.requires.behind c.args.place at (let counts = c.waiters.ensures at in omega (arith, some, counts)) in
    omega (arith, below, same)

pub returns-clause-told : goal.returns-clause-told
returns-clause-told c =
    told_with c.args.core.now c.args.marks.now c.set.new.self c.mark_all.new.marks c.args.place c.waiters.result.now (λ at. c.set.ensures.set at ∙ ap (λ (b : Bool). if at == c.args.place then b else is_marked c.args.marks.now at) c.is_open.ensures) c.waiters.ensures c.mark_all.ensures.set
