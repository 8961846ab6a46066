-- Lists of paths in the order of paths, each once (own). Such a list is known by its members alone.
use Rattle.std.specs.Prelude.{◌≡◌, List, [], ◌∷◌, All}
use Rattle.std.specs.Ordering.{match_ordering}
use Rattle.std.specs.declared.cmp.Ordering.TheVariants.{Less}
use Rattle.tup_path.specs.Name.{Names}
use Rattle.tup_path.specs.Order.{by_names}

-- each path comes before those behind it
abbrev pub IsAscending : List Names → Type 0
IsAscending [] = Unit {0}
IsAscending (path ∷ paths) = All (λ later. by_names path later ≡ Less) paths × IsAscending paths

-- a path put at its place
abbrev pub put : Names → List Names → List Names
put path [] = path ∷ []
put path (first ∷ more) = match_ordering (by_names path first) (path ∷ first ∷ more) (first ∷ more) (first ∷ put path more)

-- the paths of a list, ascending
abbrev pub ascending : List Names → List Names
ascending [] = []
ascending (path ∷ paths) = put path (ascending paths)
