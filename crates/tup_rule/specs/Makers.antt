-- The makers of paths in a map, and the makers of what a rule declares.
use Rattle.std.specs.Prelude.{◌≡◌, ℕ, if◌then◌else◌, List, ◌++◌, Some, filter_map}
use Rattle.std.specs.BTreeMap.{BTreeMap, get}
use Rattle.tup_path.specs.Name.{Names}
use Rattle.tup_path.specs.Order.{by_names}
use Rattle.tup_rule.specs.declared.rule.Rule.{Rule}
use Rattle.tup_rule.specs.Rule.{among, maker}

-- the places of makers by the paths that they make
abbrev pub MakerMap : Type 0
MakerMap = BTreeMap Names ℕ

-- a map that has just the makers of paths
pub record HasMakers (rules : List Rule) (makers : MakerMap) : Type 0 where
  pub each : (path : Names) → get by_names makers path ≡ maker path rules

-- a map that has one maker more, before those that were
pub record SetsMaker (outputs : List Names) (at : ℕ) (old new : MakerMap) : Type 0 where
  pub each : (path : Names) → get by_names new path ≡ (if among path outputs then Some at else get by_names old path)

-- the makers of the paths that a rule declares, one for each path that has one
abbrev pub producers : List Rule → Rule → List ℕ
producers rules rule = filter_map (λ path. maker path rules) (rule.inputs ++ rule.order)

-- the same, as a map has them
abbrev pub makers_in : MakerMap → List Names → List ℕ
makers_in makers paths = filter_map (λ path. get by_names makers path) paths

-- and of the paths that a rule declares
abbrev pub producers_in : MakerMap → Rule → List ℕ
producers_in makers rule = makers_in makers (rule.inputs ++ rule.order)
