use Rattle.std.proofs.Common.{refl, ap, ◌∙◌}
use Rattle.tup_lock.proofs.Entering.{finds}
use Rattle.tup_lock.proofs.seat_lock.SeatLock.enter.Goals as goal

pub returns-clause-found : goal.returns-clause-found
returns-clause-found g c = finds g.T.Logged c.args.seat.now.place.me.0 c.args.seat.now.number c.args.seat.now.last.value c.take.result c.args.seat.now.seated c.take.ensures.shows

pub returns-clause-inside : goal.returns-clause-inside
returns-clause-inside g c =
    let is = c.requires.own.is in
    let e = c.take.ensures in
    let same = ap (λ m. m.0.count) e.holds in
    record {
      is = record { table = e.own ∙ is.table; number = is.number; first = λ zero. same ∙ is.first zero; others = λ other. same ∙ is.others other; began = is.began; stood = is.stood };
      number = refl;
      last = refl;
      began = (finds g.T.Logged c.args.seat.now.place.me.0 c.args.seat.now.number c.args.seat.now.last.value c.take.result c.args.seat.now.seated e.shows).later.began ∙ is.began;
      stood = λ count it. is.stood count ((finds g.T.Logged c.args.seat.now.place.me.0 c.args.seat.now.number c.args.seat.now.last.value c.take.result c.args.seat.now.seated e.shows).later.stood count it);
      holds = e.holds;
    }

pub invariant_of-seat : goal.invariant_of-seat
invariant_of-seat g c = record { seated = ap (λ m. m.0.lasts) c.take.ensures.holds ∙ c.args.seat.now.seated }

pub take-requires : goal.take-requires
take-requires g c = record { own = (c.requires.own.is.table, c.requires.own.slots) }
