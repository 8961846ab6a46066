-- The home of a folder, as it is looked up (own).
use Rattle.std.specs.Prelude.{◌≢◌, ◌↔◌, Option, None, Some}
use Rattle.std.specs.BTreeSet.{BTreeSet}
use Rattle.tup_path.specs.Name.{Names}
use Rattle.tup_path.specs.Order.{by_names}
use Rattle.tup_graph.specs.Answers.{Sources, IsHome, IsSource, tupfile}
use Rattle.tup_scan_diff.specs.Sets.{Has}

-- a set of the folders that have a Tupfile
abbrev pub AreWithTupfile : Sources → BTreeSet Names → Type 0
AreWithTupfile sources dirs = (dir : Names) → Has by_names dirs dir ↔ IsSource sources (tupfile dir)

-- a folder has this home, or it has none
abbrev pub IsHomeOf : Sources → Names → Option Names → Type 0
IsHomeOf sources dir (Some home) = IsHome sources dir home
IsHomeOf sources dir None = (home : Names) → IsHome sources dir home → ⊥

-- a folder has this home, which is another folder than the one that is read, or it has no such one
abbrev pub IsOtherHome : Sources → Names → Names → Option Names → Type 0
IsOtherHome sources reader dir (Some home) = IsHome sources dir home × (home ≢ reader)
IsOtherHome sources reader dir None = (home : Names) → IsHome sources dir home → home ≢ reader → ⊥
