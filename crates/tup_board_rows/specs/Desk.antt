-- What a seat may run (own).
use Rattle.std.specs.Prelude.{◌≡◌, ℕ, ◌<◌, Some, slice_get}
use Rattle.tup_rule.specs.declared.rule.Rule.{Rule}
use Rattle.tup_core.specs.declared.plan.Plan.{Plan}
use Rattle.tup_core.specs.declared.running.Running.{Running}

-- there is such a seat, and the rule that it runs is one of the plan
pub record MayRun (plan : Plan) (seat : ℕ) (running : Running) : Type 0 where
  pub within : seat < 16
  pub rule : Rule
  pub placed : slice_get plan.rules running.rule ≡ Some rule
