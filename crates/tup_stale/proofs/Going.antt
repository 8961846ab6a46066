-- Calls one behind another whose steps differ.
use Rattle.std.proofs.Common.{◌≡◌, ℕ, true, List, inl, inr, ⊎_elim, ◌∙◌, arith}
use Rattle.tup_path.specs.Name.{Names, Content}
use Rattle.tup_site.specs.World.{World}
use Rattle.tup_site.specs.Crash.{GoesOn, NoStep, FileStep}
use Rattle.tup_rule.specs.Rule.{among}
use Rattle.tup_table.proofs.Going.{IsEarlier}
use Rattle.tup_stale.specs.Crash.{LeavesBy}
use Rattle.tup_stale.specs.Files.{FilesStep}
use Rattle.tup_stale.proofs.Removals.{beside_one, beside_then}

module _ {S : Type 0} (moment : S → ℕ) (left_since : S → ℕ → World → Type 0) where
  pub then_by : (old mid new : S) (one two both : World → World → Type 0) → IsEarlier moment left_since mid
      → ((v w : World) → one v w → both v w) → ((v w : World) → two v w → both v w) → ((u v w : World) → one u v → two v w → both u w)
      → GoesOn moment left_since old mid one → GoesOn moment left_since mid new two → GoesOn moment left_since old new both
  then_by old mid new one two both earlier is_one is_two joined first last = record {
    later = omega (arith, first.later, last.later);
    kept = λ t w le left. last.kept t w (omega (arith, le, first.later)) (first.kept t w le left);
    since = λ t w le left.
        ⊎_elim (λ now. ⊎_elim inl (λ from. inr (from.0, from.1, is_one from.0 w from.2)) (first.since t w le now))
        (λ from. inr (⊎_elim (λ before. (from.0, before, is_two from.0 w from.2)) (λ back. (back.0, back.1, joined back.0 from.0 w back.2 from.2))
        (first.since (moment old) from.0 (omega arith) (earlier (moment old) (moment mid) from.0 first.later from.1))))
        (last.since t w (omega (arith, le, first.later)) left);
  }

  -- where nothing but the step comes to what may be left, and it takes in what was left before
  pub leaves_by : (old new : S) (step : World → World → Type 0) → ((w : World) → left_since old (moment old) w → step w w) → GoesOn moment left_since old new step
      → LeavesBy moment left_since old new step
  leaves_by old new step same on = record {
    only = λ w left. ⊎_elim (λ before. (w, before, same w before)) (λ from. from) (on.since (moment old) w (omega arith) left);
    on = on;
  }

  -- where nothing was done
  pub at_rest : (site : S) (step : World → World → Type 0) → GoesOn moment left_since site site step
  at_rest site step = record { later = omega arith; kept = λ t w le left. left; since = λ t w le left. inl left }

  -- one more file is removed
  module _ (files : List Names) where
    file_step : (path : Names) (known : List Content) (v w : World) → among path files ≡ true → FileStep path known v w → FilesStep files v w
    file_step path known v w inside step = record { others = beside_one files path v.tree w.tree inside step.others; store = step.store }

    pub one_more : (old mid new : S) (path : Names) (known : List Content) → IsEarlier moment left_since mid → among path files ≡ true
        → GoesOn moment left_since old mid (FilesStep files) → GoesOn moment left_since mid new (FileStep path known) → GoesOn moment left_since old new (FilesStep files)
    one_more old mid new path known earlier inside first last =
        then_by old mid new (FilesStep files) (FileStep path known) (FilesStep files) earlier (λ v w step. step) (λ v w step. file_step path known v w inside step)
        (λ u v w before step. record {
          others = beside_then files u.tree v.tree w.tree before.others (beside_one files path v.tree w.tree inside step.others);
          store = step.store ∙ before.store;
        }) first last

  -- a call that adds nothing comes last
  pub then_nothing : (old mid new : S) (step : World → World → Type 0) → IsEarlier moment left_since mid → GoesOn moment left_since old mid step → GoesOn moment left_since mid new NoStep
      → GoesOn moment left_since old new step
  then_nothing old mid new step earlier first last = then_by old mid new step NoStep step earlier (λ v w s. s) (λ v w none. absurd none) (λ u v w s none. absurd none) first last
