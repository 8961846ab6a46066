-- The runners of one call: what they count, and what they ran.
use Rattle.std.specs.Prelude.{◌≡◌, ℕ, List, [], ◌∷◌, Result}
use Rattle.std.specs.Result.{result_err}
use Rattle.tup_path.specs.Name.{Names}
use Rattle.tup_site.specs.World.{World}
use Rattle.tup_rule.specs.declared.rule.RuleName.{RuleName}
use Rattle.tup_runner.specs.Next.{Next}
use Rattle.tup_compare.specs.Compared.{RunsToCompare}
use Rattle.tup_compare.specs.declared.compare.Compared.{Compared}
use Rattle.tup_promise.specs.declared.stop.Stop.{Stop}
pub use Rattle.tup_parallel.specs.Parallel.{IsCrew}
use Rattle.tup_top.specs.Order.{Wanted, IsUpdate, HasCommandsRun}

-- the first runner was given the commands of a comparison to run, and the others ran nothing
abbrev pub CrewCompares : Next → World → List (List (Names × List ℕ)) → List (List (Names × List ℕ)) → Result Compared Stop → Type 0
CrewCompares next w (old ∷ others) (new ∷ rest) result = RunsToCompare next w old new (result_err result) × (rest ≡ others)
CrewCompares next w [] now result = ⊥
CrewCompares next w before [] result = ⊥

-- only an update begins rules, and only it and a comparison have the crew run anything
pub record NothingRun {R : Type 0} (wanted : Wanted) (before now : List R) (ran : List RuleName) : Type 0 where
  pub begun : (IsUpdate wanted → ⊥) → ran ≡ []
  pub runners : (HasCommandsRun wanted → ⊥) → now ≡ before
