-- What lies below what (own).
use Rattle.std.specs.Prelude.{◌≡◌, Bool, true, false, ◌&&◌, List, [], ◌∷◌, bytes_eq}
use Rattle.std.specs.List.{list_any}
use Rattle.tup_path.specs.Name.{Names}
use Rattle.tup_rule.specs.Rule.{among}

-- whether a path lies below a folder, at whatever depth
abbrev pub is_below : Names → Names → Bool
is_below [] [] = false
is_below [] (name ∷ path) = true
is_below (first ∷ folder) [] = false
is_below (first ∷ folder) (name ∷ path) = bytes_eq first name && is_below folder path

-- these are the folders above some paths, and no others
abbrev pub AreAbove : List Names → List Names → Type 0
AreAbove folders paths = (dir : Names) → among dir folders ≡ list_any (is_below dir) paths

-- above each of these folders all folders are there
abbrev pub IsClosed : List Names → Type 0
IsClosed folders = (dir upper : Names) → among dir folders ≡ true → is_below upper dir ≡ true → among upper folders ≡ true
