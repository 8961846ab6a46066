-- There is at most one proof that a seat is one of a lock (own).
use Rattle.std.specs.Prelude.{◌≡◌, ℕ, []}
use Rattle.std.specs.Coded.{Coded, Coded-set, coded_ℕ, coded_list, coded_option, coded×, le_prop, Π_prop, →_prop}
use Rattle.atomic_table.specs.Seated.{table_id_coded}
use Rattle.tup_lock.specs.declared.logged.Logged.{Ghosts as Log}
use Rattle.tup_lock.specs.declared.seat.Seat.{Seat}
use Rattle.tup_lock.specs.declared.seat_lock.SeatLock.{SeatLock}
use Rattle.tup_lock.specs.Seats.{IsOf, IsSeatOf}

-- where the value has a code, as a board has where its site has one
module _ {T W E : Type 0} (code : Coded T) (log : Log T E) (once : (t : T) (count : ℕ) → IsProp (log.stood t count)) (lock : SeatLock T W E) (seat : Seat T E log) where
  of_once : IsProp (IsOf log lock seat)
  of_once x y = λ i. record {
    table = Coded-set table_id_coded seat.place.table_id lock.lock.table.shared.table_id x.table y.table i;
    number = le_prop x.number y.number i;
    first = →_prop (Coded-set coded_ℕ seat.place.me.0.count lock.seats) x.first y.first i;
    others = →_prop (Coded-set coded_ℕ seat.place.me.0.count 0) x.others y.others i;
    began = Coded-set code (log.origin seat.last.value) (log.origin lock.first.value) x.began y.began i;
    stood = Π_prop (λ count. →_prop (once lock.first.value count)) x.stood y.stood i;
  }

  pub seat_once : IsProp (IsSeatOf log lock seat)
  seat_once x y = λ i. record {
    is = of_once x.is y.is i;
    slots = Coded-set (coded_list (coded× coded_ℕ (coded_option code))) seat.place.me.1 [] x.slots y.slots i;
  }
