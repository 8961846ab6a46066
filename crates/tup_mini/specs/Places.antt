-- Where each path stands among the writes of a command.
use Rattle.std.specs.Prelude.{◌≡◌, ℕ, suc, if◌then◌else◌, [], ◌∷◌, Option, None, Some, option_map}
use Rattle.std.specs.BTreeMap.{BTreeMap, get}
use Rattle.tup_path.specs.Name.{Names}
use Rattle.tup_path.specs.Order.{by_names}
use Rattle.tup_mini.specs.Kept.{Writes, names}

-- the place of the write to a path
abbrev pub place_of : Names → Writes → Names → Option ℕ
place_of dir [] path = None
place_of dir (write ∷ writes) path =
    if names dir write.0 path then Some 0 else option_map (λ at. suc at) (place_of dir writes path)

-- a map that has just the places of the paths that were written
pub record HasPlaces (dir : Names) (writes : Writes) (places : BTreeMap Names ℕ) : Type 0 where
  pub each : (path : Names) → get by_names places path ≡ place_of dir writes path
