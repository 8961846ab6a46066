-- A call that adds nothing to what a crash may leave.
use Rattle.std.proofs.Common.{ℕ, ⊎_elim, arith}
use Rattle.tup_site.specs.Crash.{GoesOn, NoStep}
use Rattle.tup_site.specs.World.{World}

module _ {S : Type 0} (moment : S → ℕ) (left_since : S → ℕ → World → Type 0) where
  -- a call behind another, one of which adds nothing
  pub then_quiet : (old mid new : S) (step : World → World → Type 0) → GoesOn moment left_since old mid step → GoesOn moment left_since mid new NoStep → GoesOn moment left_since old new step
  then_quiet old mid new step first last = record {
    later = omega (arith, first.later, last.later);
    kept = λ t w le left. last.kept t w (omega (arith, le, first.later)) (first.kept t w le left);
    since = λ t w le left. ⊎_elim (first.since t w le) (λ none. absurd none.2) (last.since t w (omega (arith, le, first.later)) left);
  }
