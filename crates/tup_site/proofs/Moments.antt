-- How a run of calls goes on, moment by moment.
use Rattle.std.proofs.Common.{◌⊎◌, inl, inr, ⊎_elim, ℕ, ◌≤◌, arith}
use Rattle.tup_site.specs.World.{World}
use Rattle.tup_site.specs.Crash.{Follows, GoesOn, NoStep, LeavesOnly}

module _ {S : Type 0} (moment : S → ℕ) (left_since : S → ℕ → World → Type 0) where
  -- before the first call
  pub started : (old : S) (P : World → Type 0) → ((w : World) → left_since old (moment old) w → P w) → LeavesOnly moment left_since old old P
  started old P here = record { later = omega arith; each = here; before = λ t w le left. inl left }

  -- one call more, whose step leads to what has P
  pub goes_on : (old mid new : S) (P : World → Type 0) (step : World → World → Type 0) → LeavesOnly moment left_since old mid P → GoesOn moment left_since mid new step → ((w : World) → Follows step (left_since mid (moment mid)) w → P w) → LeavesOnly moment left_since old new P
  goes_on old mid new P step so_far call here = record {
    later = omega (arith, so_far.later, call.later);
    each = λ w left. ⊎_elim (so_far.each w) (here w) (call.since (moment old) w so_far.later left);
    before = λ t w le left. ⊎_elim (so_far.before t w le) (λ follows. inr (here w follows)) (call.since t w (omega (arith, le, so_far.later)) left);
  }

  -- one call more that adds nothing
  pub stands : (old mid new : S) (P : World → Type 0) → LeavesOnly moment left_since old mid P → GoesOn moment left_since mid new NoStep → LeavesOnly moment left_since old new P
  stands old mid new P so_far call = goes_on old mid new P NoStep so_far call (λ w follows. absurd follows.2)

  -- what a crash right after a call may leave, it may have left right before it, or it comes by the call's step
  pub now_or_step : (old new : S) (step : World → World → Type 0) → ((site : S) (t u : ℕ) (w : World) → t ≤ u → left_since site u w → left_since site t w) → GoesOn moment left_since old new step → (w : World) → left_since new (moment new) w → left_since old (moment old) w ⊎ Follows step (left_since old (moment old)) w
  now_or_step old new step earlier call w left = call.since (moment old) w (omega arith) (earlier new (moment old) (moment new) w call.later left)
