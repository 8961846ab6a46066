-- How many steps a walk over recorded reads takes: one for each root, and one for each look at a rule that reads what a
-- reached rule makes (own).
use Rattle.std.specs.Prelude.{◌≡◌, ◌↔◌, ℕ, ◌+◌, ◌≤◌, Bool, List, [], Option, None, Some, Contains, length, filter, map, sum_by}
use Rattle.std.specs.FinMap as finite
use Rattle.std.specs.List.Sorted.{IsStrictlySortedBy}
use Rattle.std.specs.Ordering.{nat_cmp}
use Rattle.tup_path.specs.Name.{Names}
use Rattle.tup_rule.specs.Rule.{among}
use Rattle.tup_record.specs.declared.run.RunRecord.{RunRecord}
use Rattle.tup_graph.specs.Above.{IsAbove}
use Rattle.tup_graph.specs.Graph.{GraphState, outputs_of}

-- the paths that a record asks, where there is one
abbrev pub asked_in : Option RunRecord → List Names
asked_in (Some run) = map (λ ask. ask.0) run.asks
asked_in None = []

-- whether the record of a rule asks a path
abbrev pub has_asked : GraphState → Names → ℕ → Bool
has_asked g path number = among path (asked_in (finite.get g.runs number))

-- the rules whose records ask a path, in ascending order
abbrev pub readers_of : GraphState → Names → List ℕ
readers_of g path = filter (has_asked g path) (finite.keys g.runs)

-- the looks at the readers of some paths: one for each pair of one of the paths and a reader of it
abbrev pub looks_at : GraphState → List Names → ℕ
looks_at g paths = sum_by (λ path. length (readers_of g path)) paths

-- the looks at the readers of what some rules make: one for each pair of an output of one of the rules and a reader of it
abbrev pub looks : GraphState → List ℕ → ℕ
looks g numbers = sum_by (λ number. looks_at g (outputs_of g number)) numbers

-- a list of just these numbers, each once and in ascending order
pub record IsListOf (These : ℕ → Type 0) (numbers : List ℕ) : Type 0 where
  pub ascending : IsStrictlySortedBy nat_cmp numbers
  pub members : (number : ℕ) → Contains numbers number ↔ These number

-- the steps of a walk from some roots: one for each root, and the looks at the readers of what the rules above them make
pub record HasStepped (g : GraphState) (IsRoot : ℕ → Type 0) (before after : ℕ) : Type 0 where
  pub roots : List ℕ
  pub reached : List ℕ
  pub are_roots : IsListOf IsRoot roots
  pub are_above : IsListOf (IsAbove g IsRoot) reached
  pub steps : after ≡ before + length roots + looks g reached

-- at most the steps of a walk from some roots
abbrev pub HasSteppedAtMost : GraphState → (ℕ → Type 0) → ℕ → ℕ → Type 0
HasSteppedAtMost g IsRoot before after =
    (roots reached : List ℕ) → IsListOf IsRoot roots → IsListOf (IsAbove g IsRoot) reached → after ≤ before + length roots + looks g reached
