-- What seats know that come to one.
use Rattle.std.proofs.Common.{◌≡◌, ◌<◌, ◌+◌, ℕ, List, [], ◌∷◌, ◌++◌, length, get_or, refl, sym, ap, ◌∙◌, subst, arith}
use Rattle.std.specs.Prelude.{All, map}
use Rattle.std.proofs.lemmas.List.{append_assoc, get_or_append_left, get_or_push, get_or-map, length-map, length_push, map_push}
use Rattle.tup_lock.specs.declared.logged.Logged.{Ghosts as Log}
use Rattle.tup_lock.specs.declared.seat.Seat.{Seat}
use Rattle.tup_lock.specs.declared.seat_lock.SeatLock.{SeatLock}
use Rattle.tup_lock.specs.Held.{IsFound}
use Rattle.tup_lock.specs.Seats.{AreNumbered, IsSeatOf, last_of}

module _ {T W E : Type 0} (log : Log T E) (lock : SeatLock T W E) (items rest : List (Seat T E log)) (seat : Seat T E log) (is : items ≡ rest ++ seat ∷ []) where
  -- the last seat is taken off
  pub longer : length items ≡ length rest + 1
  longer = ap length is ∙ length_push rest seat

  pub rest_numbered : AreNumbered log lock items → AreNumbered log lock rest
  rest_numbered all i d less =
      let long = longer in
      subst (λ (s : Seat T E log). IsSeatOf log lock s × (s.number ≡ i)) (ap (λ l. get_or l i d) is ∙ get_or_append_left rest (seat ∷ []) d i less) (all i d (omega arith))

  pub seat_numbered : AreNumbered log lock items → IsSeatOf log lock seat × (seat.number ≡ length rest)
  seat_numbered all =
      let long = longer in
      subst (λ (s : Seat T E log). IsSeatOf log lock s × (s.number ≡ length rest)) (ap (λ l. get_or l (length rest) seat) is ∙ get_or_push rest seat seat (length rest) refl) (all (length rest) seat (omega arith))

  -- what it knew goes before what was known
  pub lasts_before : (mine more : List (ℕ × T)) → mine ≡ last_of seat ∷ [] → map last_of rest ++ (mine ++ more) ≡ map last_of items ++ more
  lasts_before mine more one =
      ap (λ l. map last_of rest ++ (l ++ more)) one ∙ sym (append_assoc (map last_of rest) (last_of seat ∷ []) more)
      ∙ ap (λ l. l ++ more) (sym (ap (map last_of) is ∙ map_push last_of rest seat))

-- what is so of all that is known is so of what each seat knows
pub each_last : {T E : Type 0} {log : Log T E} (P : ℕ × T → Type 0) (seats : List (Seat T E log)) → All P (map last_of seats) → (i : ℕ) (d : Seat T E log) → i < length seats → P (last_of (get_or seats i d))
each_last P seats all i d less = let long = length-map seats last_of in subst P (get_or-map last_of seats i d (last_of d) less) (all i (last_of d) (omega arith))

-- it began as each seat knows that it did
pub began_alike : {T W E : Type 0} (log : Log T E) (lock : SeatLock T W E) (seats : List (Seat T E log)) (t : T) → 0 < length seats → AreNumbered log lock seats → All (λ (l : ℕ × T). IsFound log l.0 l.1 t) (map last_of seats)
    → log.origin t ≡ log.origin lock.first.value
began_alike log lock [] t some numbered all = absurd (omega arith)
began_alike log lock (seat ∷ seats) t some numbered all = (each_last (λ l. IsFound log l.0 l.1 t) (seat ∷ seats) all 0 seat some).later.began ∙ (numbered 0 seat some).0.is.began

-- and what stands now stood then
pub stood_alike : {T W E : Type 0} (log : Log T E) (lock : SeatLock T W E) (seats : List (Seat T E log)) (t : T) → 0 < length seats → AreNumbered log lock seats → All (λ (l : ℕ × T). IsFound log l.0 l.1 t) (map last_of seats)
    → (count : ℕ) → log.stood t count → log.stood lock.first.value count
stood_alike log lock [] t some numbered all count it = absurd (omega arith)
stood_alike log lock (seat ∷ seats) t some numbered all count it =
    (numbered 0 seat some).0.is.stood count ((each_last (λ l. IsFound log l.0 l.1 t) (seat ∷ seats) all 0 seat some).later.stood count it)
