use Rattle.std.proofs.Common.{◌≡◌, ◌≢◌, ◌++◌, [], length}
use Rattle.std.specs.Prelude.{map}
use Rattle.tup_lock.specs.Seats.{AreNumbered, last_of}
use Rattle.tup_lock.proofs.seat_lock.SeatLock.unite_below.Given as goal

abbrev pub invariant-loop-seat : goal.invariant-loop-seat
invariant-loop-seat g l = record {
  table : l.place.table_id ≡ l.self.lock.table.shared.table_id;
  slots : l.place.me.1 ≡ [];
  seats : AreNumbered g.T.Logged l.self l.seats.items;
  first : length l.seats.items ≡ 0 → l.place.me.0.count ≡ l.self.seats;
  others : length l.seats.items ≢ 0 → l.place.me.0.count ≡ 0;
  lasts : map last_of l.seats.items ++ l.place.me.0.lasts ≡ map last_of l.fn.seats.items ++ l.fn.place.me.0.lasts;
}

abbrev pub decreases-loop-seat : goal.decreases-loop-seat
decreases-loop-seat g l = length l.seats.items
