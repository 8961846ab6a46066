-- Which rules are the same as rules of a graph (own).
use Rattle.std.specs.Prelude.{◌≡◌, ℕ, List, [], ◌∷◌, Option, None, Some, length, unwrap_or, slice_get, if◌then◌else◌}
use Rattle.tup_path.specs.Name.{Names}
use Rattle.tup_path.specs.Order.{same_path}
use Rattle.tup_rule.specs.declared.rule.Rule.{Rule}
use Rattle.tup_graph.specs.Graph.{GraphState}
use Rattle.tup_graph.specs.Swap.{WasAt, IsNew}
use Rattle.tup_closure.specs.Lists.{list_of}
use Rattle.tup_closure.specs.declared.lists.Lists.{Lists}
use Rattle.tup_rule_diff.specs.Numbered.{numbered}

-- the number that a rule had: that of the first that was the same, and none where it is new
abbrev pub IsNumberBefore : GraphState → Rule → Option ℕ → Type 0
IsNumberBefore g rule (Some before) = WasAt g rule before
IsNumberBefore g rule None = IsNew g rule

-- the numbers that rules had, one for each
abbrev pub AreNumbersBefore : GraphState → List Rule → List (Option ℕ) → Type 0
AreNumbersBefore g [] [] = Unit {0}
AreNumbersBefore g (rule ∷ rules) (before ∷ befores) = IsNumberBefore g rule before × AreNumbersBefore g rules befores
AreNumbersBefore g [] (before ∷ befores) = ⊥
AreNumbersBefore g (rule ∷ rules) [] = ⊥

-- the path that a rule is looked up by: its first output, or its folder where it has none
abbrev pub path_of : Rule → Names
path_of rule = unwrap_or (slice_get rule.outputs 0) rule.dir

-- the number of a rule, if it is looked up by this path
abbrev pub number_at : Names → ℕ → Rule → List ℕ
number_at path number rule = if same_path path (path_of rule) then number ∷ [] else []

-- how many values a path has
abbrev pub count_of : {V : Type 0} → Lists V → Names → ℕ
count_of lists path = length (list_of lists path)

-- each path has just the numbers of the rules listed that are looked up by it
abbrev pub AreNumbersByPath : List Rule → Lists ℕ → Type 0
AreNumbersByPath rules numbers = (path : Names) → list_of numbers path ≡ numbered (number_at path) 0 rules
