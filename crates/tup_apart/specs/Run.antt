-- The plans that may be run over a graph (own).
use Rattle.std.specs.Prelude.{◌≡◌, ◌↔◌, ℕ, List, Some, Contains, slice_get}
use Rattle.std.specs.List.{IsDistinct}
use Rattle.tup_path.specs.Order.{same_path}
use Rattle.tup_rule.specs.declared.rule.Rule.{Rule}
use Rattle.tup_graph.specs.Graph.{GraphState}
use Rattle.tup_core.specs.declared.plan.Plan.{Plan}
use Rattle.tup_core.specs.Sound.{HasNear, IsInRange}
use Rattle.tup_partial.specs.Plan.{IsToRun}
use Rattle.tup_board.specs.Outputs.{AreApart, IsPlanOf}

-- no rule names an output twice
abbrev pub OutputsOnce : List Rule → Type 0
OutputsOnce rules = (number : ℕ) (rule : Rule) → slice_get rules number ≡ Some rule → IsDistinct same_path rule.outputs

-- a plan has the rules of a graph, runs those that are to be run, and notes which are near these
pub record IsPlanned (g : GraphState) (plan : Plan) : Type 0 where
  pub rules : plan.rules ≡ g.rules
  pub reach : (number : ℕ) → Contains plan.reach number ↔ IsToRun g number
  pub range : IsInRange plan
  pub near : HasNear plan

-- a board may run such a plan over the graph: it runs just the flagged rules, each of their outputs can be a file beside
-- all other files and has one maker, and no rule names an output twice
pub record MayRun (g : GraphState) (given : Plan) : Type 0 where
  pub plan : IsPlanOf g given
  pub reach : (number : ℕ) → Contains given.reach number ↔ IsToRun g number
  pub apart : AreApart given g
  pub once : OutputsOnce given.rules
