use Rattle.std.proofs.Common.{ℕ, ◌≤◌, sym, subst, ◌∙◌}
use Rattle.std.proofs.lemmas.Bool.{false≢true}
use Rattle.std.proofs.lemmas.Result.{err_from_is_err_and}
use Rattle.tup_table.specs.Compact.{live_size}
use Rattle.tup_table.specs.Store.{most_live}
use Rattle.tup_table.proofs.Stores.{start_refusal, high_refusal, room_refusal, no_room, high_answer}
use Rattle.tup_table.proofs.reading.find_high.Goals as goal

pub returns-in_default : goal.returns-in_default
returns-in_default c = λ head is switched at. start_refusal head c.args.low.now is switched c.args.start at c.in_default.ensures

pub returns-in_err-entries : goal.returns-in_err-entries
returns-in_err-entries c = λ head is switched at.
    let p = err_from_is_err_and c.from_residual.result c.from_residual.ensures.1 in
    let place = c.in-Some.ensures in
    rw (p.1, p.2) (high_refusal head c.args.low.now is switched c.args.start at place.0 place.1 c.in-Some.area.now place.2 c.in_err-entries.field-0.0 c.in_err-entries.ensures)

pub read_area-requires : goal.read_area-requires
read_area-requires c = c.in-Some.ensures.3

pub snapshot_of-requires : goal.snapshot_of-requires
snapshot_of-requires c = (subst (λ (n : ℕ). (n ≤ c.args.start) × (n ≤ most_live)) c.live.ensures (c.has_room_below.ensures.0 c.if-not-has_room_below.false)).1

pub returns-then-not-has_room_below : goal.returns-then-not-has_room_below
returns-then-not-has_room_below c = λ head is switched at.
    let place = c.in-Some.ensures in
    let opened = c.in_ok-entries.field-0 in
    let none = no_room head c.args.low.now is switched c.args.start at place.0 place.1 c.in-Some.area.now place.2 (live_size opened.entries)
    (λ room. absurd (false≢true (sym c.if-not-has_room_below.true ∙ c.has_room_below.ensures.1 (subst (λ (n : ℕ). (n ≤ c.args.start) × (n ≤ most_live)) (sym c.live.ensures) room)))) in
    room_refusal head c.args.low.now is switched c.args.start at place.0 place.1 c.in-Some.area.now place.2 opened c.in_ok-entries.ensures none

pub returns : goal.returns
returns c = λ head is switched at.
    let place = c.in-Some.ensures in
    let opened = c.in_ok-entries.field-0 in
    let room = subst (λ (n : ℕ). (n ≤ c.args.start) × (n ≤ most_live)) c.live.ensures (c.has_room_below.ensures.0 c.if-not-has_room_below.false) in
    let made = c.in_ok-snapshot.ensures in
    high_answer head c.args.low.now is switched c.args.start at place.0 place.1 c.in-Some.area.now place.2 opened c.in_ok-entries.ensures room.0 room.1 c.in_ok-snapshot.snapshot made.0 made.1
