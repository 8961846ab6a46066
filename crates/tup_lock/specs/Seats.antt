-- Which seats a lock has (own).
use Rattle.std.specs.Prelude.{◌≡◌, ◌≢◌, ℕ, ◌<◌, List, [], ◌∷◌, length, slice_index_or, None}
use Rattle.tup_lock.specs.declared.lock.Lock.{Lock}
use Rattle.tup_lock.specs.declared.logged.Logged.{Ghosts as Log}
use Rattle.tup_lock.specs.declared.seat.Seat.{Seat}
use Rattle.tup_lock.specs.declared.seat_lock.SeatLock.{SeatLock}
use Rattle.tup_lock.specs.Held.{holding}

-- ---- while a lock is made
module _ {T E : Type 0} {log : Log T E} where
  -- the number of a seat, and the value as it left it
  abbrev pub last_of : Seat T E log → ℕ × T
  last_of seat = (seat.number, seat.last.value)

  -- a seat of this number, when so many were drawn: the first one draws them
  pub record IsDrawn (lock : Lock T E) (value : T) (count number : ℕ) (seat : Seat T E log) : Type 0 where
    pub table : seat.place.table_id ≡ lock.table.shared.table_id
    pub slots : seat.place.me.1 ≡ []
    pub number_is : seat.number ≡ number
    pub last_is : seat.last.value ≡ value
    pub first : number ≡ 0 → seat.place.me.0.count ≡ count
    pub others : number ≢ 0 → seat.place.me.0.count ≡ 0

  -- so many were drawn, each at its number
  abbrev pub AreDrawn : Lock T E → T → ℕ → List (Seat T E log) → Type 0
  AreDrawn lock value count seats = (length seats ≡ count) × ((i : ℕ) (d : Seat T E log) → i < length seats → IsDrawn lock value count i (slice_index_or seats i d))

-- ---- of a lock
module _ {T W E : Type 0} (log : Log T E) where
  -- a seat is one of this lock, with a number that was drawn; the first one draws them. Its value began as that of the lock,
  -- and what stands there stood at the beginning
  pub record IsOf (lock : SeatLock T W E) (seat : Seat T E log) : Type 0 where
    pub table : seat.place.table_id ≡ lock.lock.table.shared.table_id
    pub number : seat.number < lock.seats
    pub first : seat.number ≡ 0 → seat.place.me.0.count ≡ lock.seats
    pub others : seat.number ≢ 0 → seat.place.me.0.count ≡ 0
    pub began : log.origin seat.last.value ≡ log.origin lock.first.value
    pub stood : (count : ℕ) → log.stood seat.last.value count → log.stood lock.first.value count

  -- and it isn't in
  pub record IsSeatOf (lock : SeatLock T W E) (seat : Seat T E log) : Type 0 where
    pub is : IsOf lock seat
    pub slots : seat.place.me.1 ≡ []

  -- it went in as `was`, and found this value
  pub record IsInside (lock : SeatLock T W E) (was : Seat T E log) (found : T) (seat : Seat T E log) : Type 0 where
    pub is : IsOf lock seat
    pub number : seat.number ≡ was.number
    pub last : seat.last.value ≡ was.last.value
    pub began : log.origin found ≡ log.origin lock.first.value
    pub stood : (count : ℕ) → log.stood found count → log.stood lock.first.value count
    pub holds : seat.place.me ≡ (holding was.place.me.0 found, (0, None) ∷ [])

  -- seats of a lock, each at its number
  abbrev pub AreNumbered : SeatLock T W E → List (Seat T E log) → Type 0
  AreNumbered lock seats = (i : ℕ) (d : Seat T E log) → i < length seats → IsSeatOf lock (slice_index_or seats i d) × ((slice_index_or seats i d).number ≡ i)

  -- all seats of a lock, by their numbers
  abbrev pub AreSeatsOf : SeatLock T W E → List (Seat T E log) → Type 0
  AreSeatsOf lock seats = (length seats ≡ lock.seats) × AreNumbered lock seats

  -- and they have the value that the lock began with
  abbrev pub AreNew : SeatLock T W E → T → List (Seat T E log) → Type 0
  AreNew lock value seats = AreSeatsOf lock seats × ((i : ℕ) (d : Seat T E log) → i < length seats → (slice_index_or seats i d).last.value ≡ value)
