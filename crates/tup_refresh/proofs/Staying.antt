-- Calls that add nothing to what a crash may leave.
use Rattle.std.proofs.Common.{ℕ, inl, inr, arith}
use Rattle.tup_site.specs.Crash.{GoesOn, NoStep}
use Rattle.tup_site.specs.World.{World}

module _ {S : Type 0} (moment : S → ℕ) (left_since : S → ℕ → World → Type 0) where
  -- one behind another
  pub goes_then : (old mid new : S) → GoesOn moment left_since old mid NoStep → GoesOn moment left_since mid new NoStep → GoesOn moment left_since old new NoStep
  goes_then old mid new first then = record {
    later = omega (arith, first.later, then.later);
    kept = λ t w le left. then.kept t w (omega (arith, le, first.later)) (first.kept t w le left);
    since = λ t w le left.
        elim (then.since t w (omega (arith, le, first.later)) left) [
          | inl was ↦ first.since t w le was
          | inr by ↦ absurd by.2
        ];
  }
