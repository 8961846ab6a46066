-- How calls of a site go on, one behind another.
use Rattle.std.proofs.Common.{ℕ, ◌≤◌, inl, inr, ⊎_elim, sym, ◌∙◌, arith}
use Rattle.tup_site.specs.World.{World, StoreStays}
use Rattle.tup_site.specs.Crash.{GoesOn, NoStep, PinsStore}

module _ {S : Type 0} (moment : S → ℕ) (left_since : S → ℕ → World → Type 0) where
  -- what a crash since a moment may leave, one since an earlier moment may leave
  abbrev pub IsEarlier : S → Type 0
  IsEarlier site = (t u : ℕ) (w : World) → t ≤ u → left_since site u w → left_since site t w

  -- another step, where each that was made is one of it
  pub as_step : (old new : S) (step other : World → World → Type 0) → ((v w : World) → left_since old (moment old) v → step v w → other v w) → GoesOn moment left_since old new step → GoesOn moment left_since old new other
  as_step old new step other is on = record {
    later = on.later;
    kept = on.kept;
    since = λ t w le left. ⊎_elim inl (λ from. inr (from.0, from.1, is from.0 w from.1 from.2)) (on.since t w le left);
  }

  -- two calls, whose steps together are one
  pub then_on : (old mid new : S) (step : World → World → Type 0) → IsEarlier mid → ((u v w : World) → step u v → step v w → step u w)
      → GoesOn moment left_since old mid step → GoesOn moment left_since mid new step → GoesOn moment left_since old new step
  then_on old mid new step earlier joined first last = record {
    later = omega (arith, first.later, last.later);
    kept = λ t w le left. last.kept t w (omega (arith, le, first.later)) (first.kept t w le left);
    since = λ t w le left.
        ⊎_elim (first.since t w le)
        (λ from. inr (⊎_elim (λ before. (from.0, before, from.2)) (λ back. (back.0, back.1, joined back.0 from.0 w back.2 from.2))
        (first.since (moment old) from.0 (omega arith) (earlier (moment old) (moment mid) from.0 first.later from.1))))
        (last.since t w (omega (arith, le, first.later)) left);
  }

  -- a call that adds nothing comes first
  pub nothing_then : (old mid new : S) (step : World → World → Type 0) → IsEarlier mid → GoesOn moment left_since old mid NoStep → GoesOn moment left_since mid new step → GoesOn moment left_since old new step
  nothing_then old mid new step earlier first last = record {
    later = omega (arith, first.later, last.later);
    kept = λ t w le left. last.kept t w (omega (arith, le, first.later)) (first.kept t w le left);
    since = λ t w le left.
        ⊎_elim (λ now. ⊎_elim inl (λ none. absurd none.2) (first.since t w le now))
        (λ from. inr (⊎_elim (λ before. (from.0, before, from.2)) (λ none. absurd none.2)
        (first.since (moment old) from.0 (omega arith) (earlier (moment old) (moment mid) from.0 first.later from.1))))
        (last.since t w (omega (arith, le, first.later)) left);
  }

  -- what is durable stays so where a call adds nothing
  pub still_durable : (old new : S) (now later : World) → IsEarlier new → GoesOn moment left_since old new NoStep → StoreStays now later → PinsStore (left_since old (moment old)) now → PinsStore (left_since new (moment new)) later
  still_durable old new now later earlier on same durable w left =
      let before = ⊎_elim (λ (l : left_since old (moment old) w). l) (λ none. absurd none.2) (on.since (moment old) w (omega arith) (earlier (moment old) (moment new) w on.later left)) in
      durable w before ∙ sym same
