-- Which rules asked a path, by the records of their last good runs (own).
use Rattle.std.specs.Prelude.{◌≡◌, ℕ, true, List, Some, Contains}
use Rattle.std.specs.FinMap as finite
use Rattle.tup_path.specs.Name.{Names}
use Rattle.tup_record.specs.declared.run.RunRecord.{RunRecord}
use Rattle.tup_graph.specs.Above.{HasAsked}
use Rattle.tup_graph.specs.Graph.{GraphState, is_rule}

-- each record of a run is that of a rule
abbrev pub AreRunsOfRules : GraphState → Type 0
AreRunsOfRules g = (number : ℕ) (run : RunRecord) → finite.get g.runs number ≡ Some run → is_rule g number ≡ true

-- the record of a rule asks one of some paths
abbrev pub HasAskedOneOf : GraphState → List Names → ℕ → Type 0
HasAskedOneOf g paths number = (path : Names) × Contains paths path × HasAsked g number path
