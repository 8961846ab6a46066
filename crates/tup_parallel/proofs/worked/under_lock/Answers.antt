use Rattle.std.proofs.Common.{◌≡◌, ap, sym, ◌∙◌, length, arith}
use Rattle.std.specs.Prelude.{map}
use Rattle.tup_parallel.specs.Hands.{runner_of, seat_of}
use denote.Param.{param}
use denote.Param.Send.{IsSend, sendable}
use Rattle.std.proofs.Crossing.{crosses}
use Rattle.tup_board.proofs.Sent.{board_send}
use Rattle.tup_lock.proofs.Sent.{seat_send}
use Rattle.tup_parallel.proofs.Sent.{graph_lock_sync}
use Rattle.tup_parallel.proofs.Leaving.{as_many, did_all, leaves_closed, ready_slice, seats_back, written_over}
use Rattle.tup_parallel.proofs.worked.under_lock.Goals as goal

pub hands_of-hands-requires-clause-none : goal.hands_of-hands-requires-clause-none
hands_of-hands-requires-clause-none g c = c.requires.room.no_hands

pub hands_of-hands-requires-clause-room : goal.hands_of-hands-requires-clause-room
hands_of-hands-requires-clause-room g c = c.requires.room.for_hands

pub crew-requires-send-L-Seat : goal.crew-requires-send-L-Seat
crew-requires-send-L-Seat g c κs lives = let h : IsSend (param 1 g.row.S) = search sendable in search (sendable, seat_send, board_send) depth 30

pub crew-requires-clause-count : goal.crew-requires-clause-count
crew-requires-clause-count g c κs lives =
    let long = as_many g.S.Site g.R.Runner c.args.plan.now c.args.lock.lock c.requires.none c.args.seats.items c.requires.seats c.hands_of-hands.result.items c.hands_of-hands.ensures.seats in
    let seats = c.requires.seats.0.0 in
    let within = c.args.lock.within in
    let same = c.as_mut_slice.ensures.value in
    (omega (arith, long, seats, within.0, ap length same), omega (arith, long, seats, within.1, ap length same))

pub crew-requires-clause-ready : goal.crew-requires-clause-ready
crew-requires-clause-ready g c κs lives =
    ready_slice g.S.Site g.R.Runner c.args.plan.now c.args.lock.lock c.requires.none c.args.seats.items c.requires.seats c.hands_of-hands.result.items c.hands_of-hands.ensures.seats c.as_mut_slice.result.now c.as_mut_slice.ensures.value c.requires.plan

pub crew-requires-sync-L : goal.crew-requires-sync-L
crew-requires-sync-L g c κs lives = let h : IsSend (param 1 g.row.S) = search sendable in search (sendable, crosses, graph_lock_sync) depth 30

pub parted-seats-requires-clause-none : goal.parted-seats-requires-clause-none
parted-seats-requires-clause-none g c = (c.requires.room.no_seats, c.requires.room.no_runners)

pub close-requires : goal.close-requires
close-requires g c =
    let same = c.as_mut_slice.ensures.value in
    let old = c.hands_of-hands.result.items in
    let new = c.crew.new.hands in
    let long : length new ≡ length old = omega (arith, c.crew.auto.hands, ap length same) in
    let whole = written_over c.hands_of-hands.result.len new old long (sym c.as_mut_slice.ensures.len ∙ ap length same) in
    let did = did_all g.S.Site g.R.Runner c.args.plan.now c.args.lock.lock c.requires.none c.args.seats.items c.requires.seats c.hands_of-hands.result.items c.hands_of-hands.ensures.seats c.as_mut_slice.result.now new same c.crew.ensures in
    record { seats = seats_back g.S.Site g.R.Runner c.args.plan.now c.args.lock.lock c.requires.none c.args.seats.items c.requires.seats c.hands_of-hands.result.items c.hands_of-hands.ensures.seats new long did c.parted-seats.result.0.items (c.parted-seats.ensures.seats ∙ ap (map seat_of) whole) }

pub returns : goal.returns
returns g c =
    let same = c.as_mut_slice.ensures.value in
    let old = c.hands_of-hands.result.items in
    let new = c.crew.new.hands in
    let long : length new ≡ length old = omega (arith, c.crew.auto.hands, ap length same) in
    let whole = written_over c.hands_of-hands.result.len new old long (sym c.as_mut_slice.ensures.len ∙ ap length same) in
    let did = did_all g.S.Site g.R.Runner c.args.plan.now c.args.lock.lock c.requires.none c.args.seats.items c.requires.seats c.hands_of-hands.result.items c.hands_of-hands.ensures.seats c.as_mut_slice.result.now new same c.crew.ensures in
    leaves_closed g.S.Site g.R.Runner c.args.plan.now c.args.lock.lock c.requires.none c.args.seats.items c.requires.seats c.hands_of-hands.result.items c.hands_of-hands.ensures.seats new long did c.parted-seats.result.0.items (c.parted-seats.ensures.seats ∙ ap (map seat_of) whole) c.close.result c.close.ensures.opening c.close.ensures.entries c.close.ensures.no_others c.close.ensures.steady
    c.args.runners.items c.parted-seats.result.1.items c.hands_of-hands.ensures.runners (c.parted-seats.ensures.runners ∙ ap (map runner_of) whole)
