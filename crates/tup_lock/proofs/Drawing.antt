-- Seats that are drawn one after another.
use Rattle.std.proofs.Common.{◌≡◌, ◌≢◌, ◌<◌, ◌+◌, ℕ, zero, suc, List, [], ◌∷◌, ◌++◌, length, get_or, set, refl, sym, ap, ◌∙◌, subst, arith, length-set}
use mathlib.Core.Logic.{dite}
use native.Mathlib.Decide.{ℕ_discrete}
use Rattle.std.proofs.lemmas.List.{get_or_append_left, get_or_push, get_or-set_other, get_or-set_same, length_push}
use Rattle.tup_lock.specs.declared.lock.Lock.{Lock}
use Rattle.tup_lock.specs.declared.logged.Logged.{Ghosts as Log}
use Rattle.tup_lock.specs.declared.seat.Seat.{Seat}
use Rattle.tup_lock.specs.declared.seat_lock.SeatLock.{SeatLock}
use Rattle.tup_lock.specs.Seats.{AreDrawn, AreNew, IsDrawn, IsSeatOf}

module _ {T E : Type 0} {log : Log T E} (lock : Lock T E) (value : T) where
  -- a seat other than the first is as it was
  still_drawn : (count number : ℕ) (seat : Seat T E log) → number ≢ 0 → IsDrawn lock value count number seat → IsDrawn lock value (count + 1) number seat
  still_drawn count number seat other is = record {
    table = is.table;
    slots = is.slots;
    number_is = is.number_is;
    last_is = is.last_is;
    first = λ zero. absurd (other zero);
    others = is.others;
  }

  -- the first seat alone
  pub one_drawn : (seat : Seat T E log) → IsDrawn lock value 1 0 seat → AreDrawn lock value 1 (seat ∷ [])
  one_drawn seat is = (refl, at)
    where
      at : (i : ℕ) (d : Seat T E log) → i < 1 → IsDrawn lock value 1 i (get_or (seat ∷ []) i d)
      at zero d less = is
      at (suc i) d less = absurd (omega arith)

  -- the first seat draws one more
  pub draws_more : (seats : List (Seat T E log)) (chief seat : Seat T E log) → 0 < length seats → AreDrawn lock value (length seats) seats → IsDrawn lock value (length seats + 1) 0 chief
      → IsDrawn lock value (length seats + 1) (length seats) seat → AreDrawn lock value (length seats + 1) (set seats 0 chief ++ seat ∷ [])
  draws_more seats chief seat some all first new = (
    length_push (set seats 0 chief) seat ∙ ap (λ n. n + 1) same,
    λ i d less. dite (ℕ_discrete i (length seats))
        (λ last. subst (IsDrawn lock value (length seats + 1) i) (sym (get_or_push (set seats 0 chief) seat d i (same ∙ sym last))) (subst (λ k. IsDrawn lock value (length seats + 1) k seat) (sym last) new))
        (λ other.
        let long = length_push (set seats 0 chief) seat in
        let below : i < length (set seats 0 chief) = omega (arith, same) in
        subst (IsDrawn lock value (length seats + 1) i) (sym (get_or_append_left (set seats 0 chief) (seat ∷ []) d i below)) (earlier i d (omega (arith, same)))),
  )
    where
      same : length (set seats 0 chief) ≡ length seats
      same = length-set seats 0 chief

      earlier : (i : ℕ) (d : Seat T E log) → i < length seats → IsDrawn lock value (length seats + 1) i (get_or (set seats 0 chief) i d)
      earlier i d less = dite (ℕ_discrete i 0)
          (λ zero. subst (λ k. IsDrawn lock value (length seats + 1) k (get_or (set seats 0 chief) k d)) (sym zero)
          (subst (IsDrawn lock value (length seats + 1) 0) (sym (get_or-set_same seats 0 chief d some)) first))
          (λ apart. subst (IsDrawn lock value (length seats + 1) i) (sym (get_or-set_other seats 0 i chief d apart)) (still_drawn (length seats) i (get_or seats i d) apart (all.1 i d less)))

-- seats of a lock that are all drawn
module _ {T W E : Type 0} (log : Log T E) (lock : SeatLock T W E) (value : T) (began : lock.first.value ≡ value) (seats : List (Seat T E log)) (all : AreDrawn lock.lock value lock.seats seats) where
  is_seat : (i : ℕ) (d : Seat T E log) → i < length seats → IsSeatOf log lock (get_or seats i d)
  is_seat i d less =
      let it = all.1 i d less in
      let long = all.0 in
      let at = it.number_is in record {
        is = record {
          table = it.table;
          number = omega arith;
          first = λ zero. it.first (sym at ∙ zero);
          others = λ other. it.others (λ zero. other (at ∙ zero));
          began = ap log.origin (it.last_is ∙ sym began);
          stood = λ count. subst (λ (t : T). log.stood t count) (it.last_is ∙ sym began);
        };
        slots = it.slots;
      }

  pub are_new : AreNew log lock value seats
  are_new = ((all.0, λ i d less. (is_seat i d less, (all.1 i d less).number_is)), λ i d less. (all.1 i d less).last_is)
