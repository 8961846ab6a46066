use Rattle.std.proofs.Common.{◌++◌, ap, sym, ◌∙◌, arith}
use Rattle.std.specs.Prelude.{map}
use Rattle.tup_lock.specs.Seats.{last_of}
use Rattle.tup_lock.proofs.Closing.{lasts_before, longer, rest_numbered, seat_numbered}
use Rattle.tup_lock.proofs.seat_lock.SeatLock.unite_below.Goals as goal

pub loop-seat-preserved : goal.loop-seat-preserved
loop-seat-preserved g c =
    let i = c.loop-seat.invariant in
    let items = c.loop-seat.seats.items in
    let rest = c.pop.new.self.items in
    let seat = c.in-Some.seat in
    let e = c.in-Some.ensures.items in
    let lock = c.args.self.now in
    let it = seat_numbered g.T.Logged lock items rest seat e i.seats in
    let me = c.unite.ensures.1 in record {
      table = c.unite.ensures.0 ∙ it.0.is.table;
      slots = ap (λ m. m.1) me ∙ it.0.slots;
      seats = rest_numbered g.T.Logged lock items rest seat e i.seats;
      first = λ none. ap (λ m. m.0.count) me ∙ it.0.is.first (it.1 ∙ none);
      others = λ some. ap (λ m. m.0.count) me ∙ it.0.is.others (λ zero. some (sym it.1 ∙ zero));
      lasts = ap (λ m. map last_of rest ++ m.0.lasts) me ∙ lasts_before g.T.Logged lock items rest seat e seat.place.me.0.lasts c.loop-seat.place.me.0.lasts seat.seated ∙ i.lasts;
    }

pub unite-requires-clause-own : goal.unite-requires-clause-own
unite-requires-clause-own g c =
    let i = c.loop-seat.invariant in
    ((seat_numbered g.T.Logged c.args.self.now c.loop-seat.seats.items c.pop.new.self.items c.in-Some.seat c.in-Some.ensures.items i.seats).0.is.table, i.table)

pub unite-requires-clause-other : goal.unite-requires-clause-other
unite-requires-clause-other g c =
    let i = c.loop-seat.invariant in
    let long = longer g.T.Logged c.args.self.now c.loop-seat.seats.items c.pop.new.self.items c.in-Some.seat c.in-Some.ensures.items in
    (i.slots, i.others (λ zero. omega arith))
