use Rattle.std.proofs.Common.{◌≡◌, ◌++◌, ℕ, List, All}
use Rattle.tup_path.specs.Name.{Names}
use Rattle.tup_apart.specs.Place.{HasPlace}
use Rattle.tup_apart.proofs.place.have_places.Given as goal

-- those so far have places, and with those that are left they are all
abbrev pub invariant-loop-path : goal.invariant-loop-path
invariant-loop-path l = (before : List (Names × ℕ)) × (before ++ l.path-iterator ≡ l.initial.path-iterator) × All (λ (one : Names × ℕ). HasPlace l.nodes l.makers one.0) before
