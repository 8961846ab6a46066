-- Circles of rules that wait for each other. From Mike Shal, "Build System Rules and Algorithms" (2009): the graph of a
-- project has none.
use Rattle.std.specs.Prelude.{◌≡◌, ℕ, ◌≤◌, List, [], ◌∷◌, Some, slice_get, filter_map, option_map, nat_eq, count_by, All}
use Rattle.tup_rule.specs.declared.rule.Rule.{Rule}
use Rattle.tup_rule.specs.declared.rule.RuleName.{RuleName}
use Rattle.tup_rule.specs.Rule.{name_of}
use Rattle.tup_rule.specs.Producer.{MakesFor, DeclaredProducer}

-- the rule at a place waits for another: it declares a path that this one makes
abbrev pub WaitsFor : List Rule → ℕ → ℕ → Type 0
WaitsFor rules at other = (rule : Rule) × (slice_get rules at ≡ Some rule) × MakesFor rules rule other

-- a place leads to the next one, this to the one behind it, and the last of them to the end
abbrev pub InTurn : (ℕ → ℕ → Type 0) → ℕ → List ℕ → ℕ → Type 0
InTurn Leads at [] end = Leads at end
InTurn Leads at (next ∷ more) end = Leads at next × InTurn Leads next more end

-- places in a circle: each leads to the next one, and the last to the first; none stands there twice
pub record IsRound (Leads : ℕ → ℕ → Type 0) (places : List ℕ) : Type 0 where
  pub first : ℕ
  pub more : List ℕ
  pub are : places ≡ first ∷ more
  pub leads : InTurn Leads first more first
  pub once : (at : ℕ) → count_by (nat_eq at) places ≤ 1

-- rules that wait for each other in a circle, from the first of them in the order of rules on
pub record IsCircle (rules : List Rule) (places : List ℕ) : Type 0 where
  pub round : IsRound (WaitsFor rules) places
  pub least : All (λ at. round.first ≤ at) places

-- the names of the rules at these places
abbrev pub names_at : List Rule → List ℕ → List RuleName
names_at rules places = filter_map (λ at. option_map name_of (slice_get rules at)) places

-- no rule waits for itself, over whatever rules between
abbrev pub NoneWaitsForItself : List Rule → Type 0
NoneWaitsForItself rules = (at : ℕ) (rule : Rule) → slice_get rules at ≡ Some rule → DeclaredProducer rules rule at → ⊥
