-- Rules that wait for one another by what they declared and asked (own).
use Rattle.std.specs.Prelude.{◌≡◌, ℕ, zero, suc, true}
use Rattle.tup_path.specs.Name.{Names}
use Rattle.tup_rule.specs.Rule.{declares, writes}
use Rattle.tup_rule.specs.declared.rule.Rule.{Rule}
use Rattle.tup_graph.specs.Above.{HasAsked}
use Rattle.tup_graph.specs.Graph.{GraphState}
use Rattle.tup_core.specs.declared.plan.Plan.{Plan}
use Rattle.tup_why.specs.Reason.{IsPlanned}

-- a planned rule declares an output of a planned rule, and its record asks it
pub record WaitsBy (g : GraphState) (plan : Plan) (number : ℕ) (maker : ℕ) (path : Names) : Type 0 where
  pub rule : Rule
  pub other : Rule
  pub planned : IsPlanned plan number rule
  pub made : IsPlanned plan maker other
  pub declared : declares rule path ≡ true
  pub asked : HasAsked g number path
  pub wrote : writes other path ≡ true

-- a rule waits for another, over so many paths one after another
abbrev pub WaitsOver : ℕ → GraphState → Plan → ℕ → ℕ → Type 0
WaitsOver zero g plan number last = number ≡ last
WaitsOver (suc paths) g plan number last = (between : ℕ) × (path : Names) × WaitsOver paths g plan number between × WaitsBy g plan between last path

-- some rule waits for itself
abbrev pub HasCircle : GraphState → Plan → Type 0
HasCircle g plan = (at : ℕ) × (paths : ℕ) × WaitsOver (suc paths) g plan at at
