-- Seats with their runners (own).
use Rattle.std.specs.Prelude.{◌≡◌, ◌≤◌, ℕ, []}
use Rattle.std.specs.Vec.{vec_capacity}
use Rattle.tup_workers.specs.declared.hand.Hand.{Hand}
use Rattle.tup_parallel.specs.declared.hands.Room.{Room}

-- the seat of a hand
abbrev pub seat_of : {T R : Type 0} → Hand T R → T
seat_of hand = hand.seat

-- and its runner
abbrev pub runner_of : {T R : Type 0} → Hand T R → R
runner_of hand = hand.runner

-- there is room for so many hands, of which none is there yet
pub record HasRoom {T R : Type 0} (count : ℕ) (room : Room T R) : Type 0 where
  pub no_hands : room.hands.items ≡ []
  pub no_seats : room.seats.items ≡ []
  pub no_runners : room.runners.items ≡ []
  pub for_hands : count ≤ vec_capacity room.hands
  pub for_seats : count ≤ vec_capacity room.seats
  pub for_runners : count ≤ vec_capacity room.runners
