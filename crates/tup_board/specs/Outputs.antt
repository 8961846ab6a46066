-- The outputs of the rules that a plan runs (own).
use Rattle.std.specs.Prelude.{◌≡◌, ◌≢◌, ℕ, true, [], Some, IsSome, slice_get}
use Rattle.std.specs.FinMap as finite
use Rattle.tup_path.specs.Name.{Names}
use Rattle.tup_path.specs.Tree.{IsBelow}
use Rattle.tup_rule.specs.declared.rule.Rule.{Rule}
use Rattle.tup_rule.specs.Rule.{writes}
use Rattle.tup_graph.specs.Graph.{GraphState, is_flagged}
use Rattle.tup_core.specs.declared.plan.Plan.{Plan}
use Rattle.tup_core.specs.Step.{State, is_reached}
use Rattle.tup_core.specs.Sound.{HasNear, HasOneMaker, IsInRange}

-- the rule of a number makes a path
pub record Makes (plan : Plan) (number : ℕ) (path : Names) : Type 0 where
  pub rule : Rule
  pub here : slice_get plan.rules number ≡ Some rule
  pub output : writes rule path ≡ true

-- a path is an output of a rule that is to be run
abbrev pub IsToMake : Plan → Names → Type 0
IsToMake plan path = (number : ℕ) × (is_reached plan number ≡ true) × Makes plan number path

-- of one that was claimed
abbrev pub IsClaimed : Plan → State → Names → Type 0
IsClaimed plan state path = (number : ℕ) × (state.claimed number ≡ true) × Makes plan number path

-- of one that is pending
abbrev pub IsPending : Plan → State → Names → Type 0
IsPending plan state path = (number : ℕ) × (state.pending number ≡ true) × Makes plan number path

-- no file has to be a folder: paths that are seen and outputs that are to be made don't lie above each other, none of
-- these is the top, and each is made by one rule
pub record AreApart (plan : Plan) (g : GraphState) : Type 0 where
  pub not_top : (path : Names) → IsToMake plan path → path ≢ []
  pub above_seen : (path other : Names) → IsToMake plan path → IsSome (finite.get g.seen other) → IsBelow path other → ⊥
  pub below_seen : (path other : Names) → IsToMake plan path → IsSome (finite.get g.seen other) → IsBelow other path → ⊥
  pub above_other : (path other : Names) → IsToMake plan path → IsToMake plan other → IsBelow path other → ⊥
  pub one_maker : HasOneMaker plan

-- a plan is one of a graph: it has its rules, runs those that are flagged, and notes which are near
pub record IsPlanOf (g : GraphState) (plan : Plan) : Type 0 where
  pub rules : plan.rules ≡ g.rules
  pub reach : (number : ℕ) → is_reached plan number ≡ is_flagged g number
  pub in_range : IsInRange plan
  pub near : HasNear plan
