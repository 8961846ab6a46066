-- Which rules a rule waits for. From Mike Shal, "Build System Rules and Algorithms" (2009): the graph of a project.
use Rattle.std.specs.Prelude.{◌≡◌, ℕ, zero, suc, List, Some, IsTrue, slice_get}
use Rattle.tup_path.specs.Name.{Names}
use Rattle.tup_rule.specs.declared.rule.Rule.{Rule}
use Rattle.tup_rule.specs.Rule.{declares, maker}

-- the rule at a place makes a path: it is the first of the list that has it as an output
abbrev pub Maker : List Rule → Names → ℕ → Type 0
Maker rules path at = maker path rules ≡ Some at

-- the rule at a place makes a path that a rule declares
abbrev pub MakesFor : List Rule → Rule → ℕ → Type 0
MakesFor rules rule at = (path : Names) × IsTrue (declares rule path) × Maker rules path at

-- the same over so many rules between the two
abbrev pub ProducerOver : ℕ → List Rule → Rule → ℕ → Type 0
ProducerOver zero rules rule at = MakesFor rules rule at
ProducerOver (suc between) rules rule at =
    (next : ℕ) × (other : Rule) × MakesFor rules rule next × (slice_get rules next ≡ Some other) × ProducerOver between rules other at

-- the declared producers of a rule: the makers of the paths that it declares, and the declared producers of these
abbrev pub DeclaredProducer : List Rule → Rule → ℕ → Type 0
DeclaredProducer rules rule at = (between : ℕ) × ProducerOver between rules rule at
