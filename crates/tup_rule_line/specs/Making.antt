-- What rules make (own).
use Rattle.std.specs.Prelude.{◌≡◌, Bool, List}
use Rattle.std.specs.List.{flat_map, list_any}
use Rattle.tup_path.specs.Name.{Names}
use Rattle.tup_rule.specs.Rule.{among}
use Rattle.tup_rule.specs.declared.draft.Draft.{Draft}

-- the outputs of rules
abbrev pub made_by : List Draft → List Names
made_by drafts = flat_map (λ (draft : Draft). draft.outputs) drafts

-- whether a path is an output of one of these rules
abbrev pub is_made : List Draft → Names → Bool
is_made drafts path = list_any (λ (draft : Draft). among path draft.outputs) drafts

-- these are the outputs of rules: a path is one of them just where it is an output of one of the rules
abbrev pub Knows : List Names → List Draft → Type 0
Knows outputs drafts = (path : Names) → among path outputs ≡ is_made drafts path

-- a set has the paths of a list, and no others
abbrev pub HasPaths : List Names → List Names → Type 0
HasPaths keys paths = (path : Names) → among path keys ≡ among path paths
