-- Which rules are near those that are to be run: the rules that name what these make (own).
use Rattle.std.specs.Prelude.{◌≡◌, ℕ, true, List, Contains}
use Rattle.std.specs.BTreeSet.{BTreeSet, contains}
use Rattle.std.specs.Ordering.{nat_cmp}
use Rattle.tup_path.specs.Name.{Names}
use Rattle.tup_graph.specs.Graph.{GraphState, outputs_of}
use Rattle.tup_readers.specs.Index.{HasNamed}

-- a number is in a set
abbrev pub IsIn : BTreeSet ℕ → ℕ → Type 0
IsIn set number = contains nat_cmp set number ≡ true

-- a rule declares or makes one of some paths
abbrev pub NamesOneOf : GraphState → List Names → ℕ → Type 0
NamesOneOf g paths number = (path : Names) × Contains paths path × HasNamed g number path

-- a rule declares or makes an output of one of the rules with some numbers
abbrev pub NamesOutputOf : GraphState → List ℕ → ℕ → Type 0
NamesOutputOf g numbers number = (maker : ℕ) × Contains numbers maker × NamesOneOf g (outputs_of g maker) number
