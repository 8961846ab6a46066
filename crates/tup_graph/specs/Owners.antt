-- A place among the owned paths of a graph (own).
use Rattle.std.specs.Prelude.{◌≡◌, List, [], ◌∷◌, ◌++◌, Option, Some, None, option_map}
use Rattle.std.specs.FinMap as finite
use Rattle.std.specs.declared.cmp.Ordering.TheVariants.{Less}
use Rattle.tup_path.specs.Name.{Names}
use Rattle.tup_path.specs.Order.{by_names}
use Rattle.tup_graph.specs.Graph.{GraphState}
use Rattle.tup_graph.specs.declared.owned.Owned.{Owned}

-- the path of an entry, if there is one
abbrev pub key_of : Option (Names × Owned) → Option Names
key_of entry = option_map (λ (one : Names × Owned). one.0) entry

-- the last of some entries has this path; there is none where there are no entries
abbrev pub EndsAt : List (Names × Owned) → Option Names → Type 0
EndsAt [] before = before ≡ None
EndsAt (entry ∷ []) before = before ≡ Some entry.0
EndsAt (entry ∷ next ∷ more) before = EndsAt (next ∷ more) before

-- the first of some entries has this path, and these come behind it
abbrev pub BeginsWith : List (Names × Owned) → Option Names → List (Names × Owned) → Type 0
BeginsWith [] next left = next ≡ None
BeginsWith (entry ∷ more) next left = (next ≡ Some entry.0) × (left ≡ more)

-- some owned paths were passed: this is the last of them, the next one comes first among the others, and these come behind it
pub record IsPlace (g : GraphState) (before next : Option Names) (left : List (Names × Owned)) : Type 0 where
  pub passed : List (Names × Owned)
  pub rest : List (Names × Owned)
  pub whole : finite.entries g.owned ≡ passed ++ rest
  pub last : EndsAt passed before
  pub first : BeginsWith rest next left

-- a path comes behind another, if there is one
abbrev pub IsBehind : Option Names → Names → Type 0
IsBehind None path = Unit {0}
IsBehind (Some before) path = by_names before path ≡ Less

-- a path comes before another, if there is one
abbrev pub IsAhead : Names → Option Names → Type 0
IsAhead path None = Unit {0}
IsAhead path (Some next) = by_names path next ≡ Less
