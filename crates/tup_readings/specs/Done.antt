-- Sets of the outputs of readings (own).
use Rattle.std.specs.Prelude.{◌≡◌, Bool, false, ◌||◌, List, Some, None}
use Rattle.std.specs.BTreeSet.{BTreeSet, contains}
use Rattle.std.specs.FinMap as finite
use Rattle.tup_path.specs.Name.{Names}
use Rattle.tup_path.specs.Order.{by_names}
use Rattle.tup_rule.specs.Rule.{among}
use Rattle.tup_rule.specs.declared.draft.Draft.{Draft}
use Rattle.tup_rule_line.specs.Making.{is_made}
use Rattle.tup_readings.specs.Answers.{Readings, drafts_of}

-- a set of the outputs of some rules
abbrev pub AreOutputs : List Draft → BTreeSet Names → Type 0
AreOutputs drafts set = (path : Names) → contains by_names set path ≡ is_made drafts path

-- a set that has some paths more
abbrev pub AddsPaths : List Names → BTreeSet Names → BTreeSet Names → Type 0
AddsPaths paths old new = (path : Names) → contains by_names new path ≡ (contains by_names old path || among path paths)

-- sets of paths, by folders
abbrev pub Sets : Type 0
Sets = finite.FinMap by_names (BTreeSet Names)

-- whether a path is in the set of a folder
abbrev pub has_output : Sets → Names → Names → Bool
has_output sets dir path = elim (finite.get sets dir) [ Some set ↦ contains by_names set path | None ↦ false ]

-- these are the outputs of these readings, by their folders
abbrev pub Know : Readings → Sets → Type 0
Know readings sets = (dir path : Names) → has_output sets dir path ≡ is_made (drafts_of readings dir) path
