-- How a table stands for its store while files of the tree are changed.
use Rattle.std.proofs.Common.{ℕ, ⊎_elim, sym, subst, ◌∙◌, arith}
use Rattle.tup_site.specs.Crash.{GoesOn}
use Rattle.tup_site.specs.World.{World, StoreStays}
use Rattle.tup_table.specs.Table.{IsAtRest, StandsFor}
use Rattle.tup_table.specs.declared.table.Table.{Table}
use Rattle.tup_table.proofs.Going.{IsEarlier}

module _ {S : Type 0} (world : S → World) (moment : S → ℕ) (left_since : S → ℕ → World → Type 0) (table : Table) (old new : S) where
  pub stands_on : (step : World → World → Type 0) → ((v w : World) → step v w → StoreStays v w) → IsEarlier moment left_since new → GoesOn moment left_since old new step → StoreStays (world old) (world new)
      → StandsFor world moment left_since table old → StandsFor world moment left_since table new
  stands_on step keeps earlier on same stands =
      let rests = stands.rests in
      let durable = λ (w : World) (left : left_since new (moment new) w).
      ⊎_elim (λ (before : left_since old (moment old) w). rests.durable w before ∙ sym same) (λ from. keeps from.0 w from.2 ∙ rests.durable from.0 from.1 ∙ sym same)
      (on.since (moment old) w (omega arith) (earlier (moment old) (moment new) w on.later left)) in
      record {
        commits = stands.commits;
        rests = record { bytes = subst (IsAtRest stands.commits) (sym same) rests.bytes; durable = durable };
        entries = stands.entries;
        gate = stands.gate;
      }
