-- The places of folders, as a set of texts. Own.
use Rattle.std.specs.Prelude.{ℕ, List, ◌∷◌, ◌-◌, IsTrue, All, String, take, length}
use Rattle.std.specs.Global.{Global}
use Rattle.std.specs.BTreeSet.{BTreeSet, contains_text}
use Rattle.tup_path.specs.Name.{Names}
use Rattle.tup_disk.specs.Place.{places_to}

-- whether a place is marked
abbrev pub IsMarked : BTreeSet (String Global) → List ℕ → Type 0
IsMarked marked place = IsTrue (contains_text marked place)

-- whether all these places are marked
abbrev pub AllMarked : BTreeSet (String Global) → List (List ℕ) → Type 0
AllMarked marked places = All (IsMarked marked) places

-- all that was marked is marked still
abbrev pub StayMarked : BTreeSet (String Global) → BTreeSet (String Global) → Type 0
StayMarked old new = (place : List ℕ) → IsMarked old place → IsMarked new place

-- the places of the folders above a path: the top, and all between
abbrev pub places_above : List ℕ → Names → List (List ℕ)
places_above top path = top ∷ places_to top (take (length path - 1) path)
