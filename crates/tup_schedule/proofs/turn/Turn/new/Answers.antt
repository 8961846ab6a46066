use Rattle.std.proofs.Common.{◌≡◌, ℕ, List, ◌==◌, ◌&&◌, subst, arith}
use Rattle.std.specs.List.{list_any}
use Rattle.tup_core.specs.Reading.{open_test}
use Rattle.tup_schedule.specs.Marks.{is_marked}
use Rattle.tup_schedule.proofs.TurnLaws.{open_place, turn_of}
use Rattle.tup_schedule.proofs.turn.Turn.new.Goals as goal

pub mark_open-requires-clause-places : goal.mark_open-requires-clause-places
mark_open-requires-clause-places c = λ at opened.
    let below = open_place c.args.plan.now c.args.core.now at c.requires opened in
    let all = c.len.ensures in
    let enough = c.in_ok-marks.ensures.places in
    omega (arith, below, all, enough)

pub returns : goal.returns
returns c =
    let new = c.mark_open.new.marks in
    let enough = c.in_ok-marks.ensures.places in
    let few = c.in_ok-marks.ensures.few in
    let same = c.mark_open.ensures.places in
    let all = c.len.ensures in
    turn_of c.args.plan.now c.args.core.now new c.requires c.mark_open.ensures.marks (omega (arith, all, enough, same)) (omega (arith, all, few))
    (subst (λ (l : List ℕ). (at : ℕ) → is_marked new at ≡ (list_any (λ number. at == number) l && open_test c.args.core.now at)) c.as_slice.ensures c.mark_open.ensures.set)
