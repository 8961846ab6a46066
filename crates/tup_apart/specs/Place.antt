-- Where files may stand (own).
use Rattle.std.specs.Prelude.{◌≢◌, ◌⊎◌, [], List, Contains, IsSome}
use Rattle.std.specs.FinMap as finite
use Rattle.tup_path.specs.Name.{Names}
use Rattle.tup_path.specs.Tree.{IsBelow}
use Rattle.tup_graph.specs.Graph.{GraphState}
use Rattle.tup_apart.specs.Makers.{Makers}

-- one of some paths is below a path
abbrev pub IsOver : Names → List Names → Type 0
IsOver path others = (other : Names) × Contains others other × IsBelow path other

-- a path has a file: it is one that a plan makes, or one that a graph has seen
abbrev pub IsFile : GraphState → Makers → Names → Type 0
IsFile g makers path = IsSome (finite.get makers path) ⊎ IsSome (finite.get g.seen path)

-- such a file is above a path
abbrev pub IsUnderFile : GraphState → Makers → Names → Type 0
IsUnderFile g makers path = (folder : Names) × IsBelow folder path × IsFile g makers folder

-- a file may stand at a path: it isn't the top, no file is above it, and none that was seen is below it
pub record HasPlace (g : GraphState) (makers : Makers) (path : Names) : Type 0 where
  pub not_top : path ≢ []
  pub none_above : IsUnderFile g makers path → ⊥
  pub none_below : (other : Names) → IsSome (finite.get g.seen other) → IsBelow path other → ⊥

-- one may stand at each of these
abbrev pub HavePlaces : GraphState → Makers → Type 0
HavePlaces g makers = (path : Names) → IsSome (finite.get makers path) → HasPlace g makers path
