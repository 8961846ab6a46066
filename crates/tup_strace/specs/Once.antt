-- Paths, each once. Own.
use Rattle.std.specs.Prelude.{◌≡◌, Bool, if◌then◌else◌, List, [], ◌∷◌, ◌++◌}
use Rattle.std.specs.BTreeSet.{BTreeSet, contains}
use Rattle.std.specs.List.{list_any}
use Rattle.tup_path.specs.Name.{Names}
use Rattle.tup_path.specs.Order.{by_names, same_path}

-- whether a path is one of these
abbrev pub is_among : Names → List Names → Bool
is_among path paths = list_any (λ other. same_path other path) paths

-- a path more, where it isn't there
abbrev pub with_path : List Names → Names → List Names
with_path paths path = if is_among path paths then paths else paths ++ path ∷ []

-- a path more, where it is neither there nor among others
abbrev pub unless_among : List Names → List Names → Names → List Names
unless_among others paths path = if is_among path others then paths else with_path paths path

-- a set has just these paths
abbrev pub AreJust : List Names → BTreeSet Names → Type 0
AreJust paths set = (path : Names) → contains by_names set path ≡ is_among path paths
