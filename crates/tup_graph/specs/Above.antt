-- Rules that recorded reads lead to. From Mike Shal, "Build System Rules and Algorithms" (2009): the partial graph.
use Rattle.std.specs.Prelude.{◌≡◌, ℕ, zero, suc, true, Option, Some, Contains, slice_get}
use Rattle.std.specs.FinMap as finite
use Rattle.tup_path.specs.Name.{Names}
use Rattle.tup_stamp.specs.declared.Stamp.{Stamp}
use Rattle.tup_rule.specs.Rule.{writes}
use Rattle.tup_rule.specs.declared.rule.Rule.{Rule}
use Rattle.tup_record.specs.declared.run.RunRecord.{RunRecord}
use Rattle.tup_graph.specs.Graph.{GraphState}

-- the record of a rule asks a path
abbrev pub HasAsked : GraphState → ℕ → Names → Type 0
HasAsked g number path = (run : RunRecord) × (given : Option Stamp) × (finite.get g.runs number ≡ Some run) × Contains run.asks (path, given)

-- the record of a rule asks an output of a rule
abbrev pub HasReadOf : GraphState → ℕ → Rule → Type 0
HasReadOf g number maker = (path : Names) × HasAsked g number path × (writes maker path ≡ true)

-- recorded reads lead to a rule from a root, over so many other rules
abbrev pub AboveOver : ℕ → GraphState → (ℕ → Type 0) → ℕ → Type 0
AboveOver zero g IsRoot number = IsRoot number
AboveOver (suc reads) g IsRoot number =
    (before : ℕ) × (maker : Rule) × AboveOver reads g IsRoot before × (slice_get g.rules before ≡ Some maker) × HasReadOf g number maker

-- the roots, and all rules that recorded reads lead to from them
abbrev pub IsAbove : GraphState → (ℕ → Type 0) → ℕ → Type 0
IsAbove g IsRoot number = (reads : ℕ) × AboveOver reads g IsRoot number
