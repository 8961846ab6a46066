-- Prints: numbers made of paths. Beside them stand the numbers of the rules that name such a path, or whose records tell of it
-- (own). So who uses a path is found without a pass over all rules.
use Rattle.std.specs.Prelude.{◌≡◌, ℕ, Some, slice_get}
use Rattle.std.specs.FinMap as finite
use Rattle.tup_path.specs.Name.{Names}
use Rattle.tup_rule.specs.declared.rule.Rule.{Rule}
use Rattle.tup_record.specs.declared.run.RunRecord.{RunRecord}
use Rattle.tup_graph.specs.Graph.{GraphState}
use Rattle.tup_graph.specs.Lists.{Lists, StandsBeside, IsNamedBy, IsToldBy, print_of}
use Rattle.tup_graph.specs.declared.prints.Prints.{Prints}

-- each rule stands beside the prints of the paths that it names, and of those that its record asks or wrote; more may stand there
pub record HasPrints (g : GraphState) (prints : Prints) : Type 0 where
  pub named : (number : ℕ) (rule : Rule) (path : Names) → slice_get g.rules number ≡ Some rule → IsNamedBy rule path → StandsBeside prints.named (print_of path) number
  pub recorded : (number : ℕ) (run : RunRecord) (path : Names) → finite.get g.runs number ≡ Some run → IsToldBy run path → StandsBeside prints.recorded (print_of path) number
