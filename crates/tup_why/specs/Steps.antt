-- The steps of a walk back from a rule to the root of its reason (own).
use Rattle.std.specs.Prelude.{ℕ, List}
use Rattle.tup_path.specs.Name.{Names}
use Rattle.tup_rule.specs.declared.rule.Rule.{Rule}
use Rattle.tup_graph.specs.Graph.{GraphState}
use Rattle.tup_core.specs.declared.plan.Plan.{Plan}
use Rattle.tup_why.specs.Reason.{IsPlanned, GoesOn, LeadsTo}
use Rattle.tup_why.specs.Waiting.{WaitsBy}
use Rattle.tup_why.specs.declared.reason.Link.{Link}
use Rattle.tup_why.specs.declared.reasons.Step.{Step}
use Rattle.tup_why.specs.declared.reasons.Step.TheVariants.{Begins, Back, Unplanned}

-- from the rule at which a walk is, on its way back from the rule of a number, with these links behind it: it came to the root
-- of a reason, or to a rule for which this one waits; or this one isn't planned
abbrev pub StepsTo : GraphState → Plan → ℕ → ℕ → List Link → Step → Type 0
StepsTo g plan at number links (Begins root) = LeadsTo g plan root links number
StepsTo g plan at number links (Back maker) = GoesOn g plan maker links number × (path : Names) × WaitsBy g plan at maker path
StepsTo g plan at number links Unplanned = (rule : Rule) → IsPlanned plan at rule → ⊥
