use Rattle.std.proofs.Common.{◌≡◌, ◌<◌, subst, arith, get_or}
use Rattle.std.specs.Prelude.{All}
use Rattle.tup_lock.specs.Held.{IsFound, entries_of}
use Rattle.tup_lock.proofs.Closing.{began_alike, each_last, stood_alike}
use Rattle.tup_lock.proofs.seat_lock.SeatLock.close.Goals as goal

pub returns-clause-entries : goal.returns-clause-entries
returns-clause-entries g c = λ i d less.
    let t = c.take.result in
    let found = each_last (λ l. IsFound g.T.Logged l.0 l.1 t) c.args.seats.items (subst (All (λ l. IsFound g.T.Logged l.0 l.1 t)) c.unite_all-place.ensures.lasts c.take.ensures.shows.lasts) i d less in
    let number = (c.requires.own.1 i d less).1 in
    subst (λ n. entries_of g.T.Logged n (g.T.Logged.history t) ≡ entries_of g.T.Logged n (g.T.Logged.history (get_or c.args.seats.items i d).last.value)) number found.same

pub returns-clause-no_others : goal.returns-clause-no_others
returns-clause-no_others g c =
    let count = c.unite_all-place.ensures.count in
    let some = c.requires.some in
    subst (λ n. All (λ e. g.T.Logged.seat_of e < n) (g.T.Logged.history c.take.result)) count (c.take.ensures.shows.below (λ zero. omega arith))

pub returns-clause-began : goal.returns-clause-began
returns-clause-began g c =
    let t = c.take.result in
    began_alike g.T.Logged c.args.self c.args.seats.items t (let some = c.requires.some in let long = c.requires.own.0 in omega arith) c.requires.own.1
    (subst (All (λ l. IsFound g.T.Logged l.0 l.1 t)) c.unite_all-place.ensures.lasts c.take.ensures.shows.lasts)

pub returns-clause-stood : goal.returns-clause-stood
returns-clause-stood g c =
    let t = c.take.result in
    stood_alike g.T.Logged c.args.self c.args.seats.items t (let some = c.requires.some in let long = c.requires.own.0 in omega arith) c.requires.own.1
    (subst (All (λ l. IsFound g.T.Logged l.0 l.1 t)) c.unite_all-place.ensures.lasts c.take.ensures.shows.lasts)
