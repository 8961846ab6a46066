-- What an update has to run. From Mike Shal, "Build System Rules and Algorithms" (2009): the partial graph.
use Rattle.std.specs.Prelude.{◌≡◌, ℕ, true}
use Rattle.tup_graph.specs.Above.{IsAbove}
use Rattle.tup_graph.specs.Graph.{GraphState, is_rule, is_flagged}

-- a rule is flagged
abbrev pub IsFlagged : GraphState → ℕ → Type 0
IsFlagged g number = is_flagged g number ≡ true

-- each flag is that of a rule
abbrev pub AreFlagsOfRules : GraphState → Type 0
AreFlagsOfRules g = (number : ℕ) → IsFlagged g number → is_rule g number ≡ true

-- the rules that are to be run: the flagged ones, and all that recorded reads lead to from them
abbrev pub IsToRun : GraphState → ℕ → Type 0
IsToRun g number = IsAbove g (IsFlagged g) number
