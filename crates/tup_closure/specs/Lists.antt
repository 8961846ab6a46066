-- Values in lists, one list for each path (own).
use Rattle.std.specs.Prelude.{if◌then◌else◌, List, [], Option, Some, None, Contains, unwrap_or, option_map}
use Rattle.std.specs.BTreeMap.{BTreeMap, get}
use Rattle.tup_path.specs.Name.{Names}
use Rattle.tup_path.specs.Order.{by_names, same_path}
use Rattle.tup_closure.specs.declared.lists.Lists.{Lists}

-- the values of a path in a map of lists, none where it has no list
abbrev pub list_in : {V : Type 0} → BTreeMap Names (List V) → Names → List V
list_in map path = unwrap_or (get by_names map path) []

-- the same, where a path may have its list beside the map
abbrev pub list_beside : {V : Type 0} → Option (Names × List V) → BTreeMap Names (List V) → Names → List V
list_beside None map path = list_in map path
list_beside (Some (known, list)) map path = if same_path path known then list else list_in map path

-- the values of a path, none where it has no list
abbrev pub list_of : {V : Type 0} → Lists V → Names → List V
list_of lists path = list_beside lists.last lists.map path

-- the path that was given a value last
abbrev pub last_of : {V : Type 0} → Lists V → Option Names
last_of {V} lists = option_map (λ (one : Names × List V). one.0) lists.last

-- a path has a value in its list
abbrev pub IsListed : {V : Type 0} → Lists V → Names × V → Type 0
IsListed lists (path, value) = Contains (list_of lists path) value
