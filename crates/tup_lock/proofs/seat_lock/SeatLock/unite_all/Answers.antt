use Rattle.std.proofs.Common.{◌++◌, ap, sym, ◌∙◌}
use Rattle.std.specs.Prelude.{map}
use Rattle.std.proofs.lemmas.List.{map_push}
use Rattle.tup_lock.specs.Seats.{last_of}
use Rattle.tup_lock.proofs.Closing.{rest_numbered, seat_numbered}
use Rattle.tup_lock.proofs.seat_lock.SeatLock.unite_all.Goals as goal

pub unite_below-requires-clause-table : goal.unite_below-requires-clause-table
unite_below-requires-clause-table g c = (seat_numbered g.T.Logged c.args.self.now c.args.seats.items c.pop.new.self.items c.in-Some.last c.in-Some.ensures.items c.requires.own.1).0.is.table

pub unite_below-requires-clause-slots : goal.unite_below-requires-clause-slots
unite_below-requires-clause-slots g c = (seat_numbered g.T.Logged c.args.self.now c.args.seats.items c.pop.new.self.items c.in-Some.last c.in-Some.ensures.items c.requires.own.1).0.slots

pub unite_below-requires-clause-seats : goal.unite_below-requires-clause-seats
unite_below-requires-clause-seats g c = rest_numbered g.T.Logged c.args.self.now c.args.seats.items c.pop.new.self.items c.in-Some.last c.in-Some.ensures.items c.requires.own.1

pub unite_below-requires-clause-first : goal.unite_below-requires-clause-first
unite_below-requires-clause-first g c = λ none.
    let it = seat_numbered g.T.Logged c.args.self.now c.args.seats.items c.pop.new.self.items c.in-Some.last c.in-Some.ensures.items c.requires.own.1 in it.0.is.first (it.1 ∙ none)

pub unite_below-requires-clause-others : goal.unite_below-requires-clause-others
unite_below-requires-clause-others g c = λ some.
    let it = seat_numbered g.T.Logged c.args.self.now c.args.seats.items c.pop.new.self.items c.in-Some.last c.in-Some.ensures.items c.requires.own.1 in
    it.0.is.others (λ zero. some (sym it.1 ∙ zero))

pub returns-clause-lasts : goal.returns-clause-lasts
returns-clause-lasts g c =
    c.unite_below.ensures.lasts ∙ ap (λ l. map last_of c.pop.new.self.items ++ l) c.in-Some.last.seated
    ∙ sym (ap (map last_of) c.in-Some.ensures.items ∙ map_push last_of c.pop.new.self.items c.in-Some.last)
