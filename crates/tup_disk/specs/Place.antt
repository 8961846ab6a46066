-- Names as places: how the system names what lies below a folder. The form is that of every Unix system.
use Rattle.std.specs.Prelude.{ℕ, List, [], ◌∷◌, ◌++◌}
use Rattle.tup_path.specs.Name.{Names}

-- the place of names below a folder: each behind a slash
abbrev pub place_of : List ℕ → Names → List ℕ
place_of root [] = root
place_of root (name ∷ names) = place_of (root ++ 47 ∷ name) names

-- the places on the way down along names, the folder itself left out
abbrev pub places_to : List ℕ → Names → List (List ℕ)
places_to root [] = []
places_to root (name ∷ names) = (root ++ 47 ∷ name) ∷ places_to (root ++ 47 ∷ name) names
