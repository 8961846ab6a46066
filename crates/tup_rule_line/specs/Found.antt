-- What the input words of a rule give: files, each at its first place, and groups. From the manual; the order is own.
use Rattle.std.specs.Prelude.{◌≡◌, ℕ, Bool, if◌then◌else◌, List, [], ◌∷◌, ◌++◌, map, fold, Option, None}
use Rattle.std.specs.List.{list_any}
use Rattle.tup_path.specs.Name.{Names}
use Rattle.tup_path.specs.Order.{same_path}
use Rattle.tup_rule.specs.Rule.{among}
use Rattle.tup_rule.specs.declared.draft.GroupRef.{GroupRef}
use Rattle.tup_rule_line.specs.declared.found.Input.{Input}
use Rattle.tup_rule_line.specs.declared.found.Found.{Found}

-- a file as an input, and what the first operator of a glob matched in its name
abbrev pub input : Names → Option (List ℕ) → Input
input path glob = record { path = path; glob = glob }

-- inputs without a group
abbrev pub inputs_alone : List Input → Found
inputs_alone inputs = record { inputs = inputs; groups = [] }

-- a file, alone
abbrev pub one_input : Names → Found
one_input path = inputs_alone (input path None ∷ [])

-- a group, alone
abbrev pub one_group : GroupRef → Found
one_group group = record { inputs = []; groups = group ∷ [] }

-- nothing was found yet
abbrev pub nothing_found : Found
nothing_found = inputs_alone []

-- the paths of inputs
abbrev pub paths_of : List Input → List Names
paths_of inputs = map (λ (input : Input). input.path) inputs

-- whether a path is among inputs
abbrev pub has_path : List Input → Names → Bool
has_path inputs path = list_any (λ (input : Input). same_path path input.path) inputs

-- inputs with one more at the end, unless its path is there
abbrev pub with_input : List Input → Input → List Input
with_input inputs input = if has_path inputs input.path then inputs else inputs ++ input ∷ []

-- a set has the paths of inputs, and no others
abbrev pub HasFiles : List Names → List Input → Type 0
HasFiles keys inputs = (path : Names) → among path keys ≡ has_path inputs path

-- what was found with one more input, unless its path is there
abbrev pub with_one : Found → Input → Found
with_one found input = record found { inputs = with_input found.inputs input }

-- what was found with more groups
abbrev pub with_groups : Found → List GroupRef → Found
with_groups found groups = record found { groups = found.groups ++ groups }

-- what some words give with what more words give behind it
abbrev pub with_found : Found → Found → Found
with_found found more = record { inputs = fold with_input found.inputs more.inputs; groups = found.groups ++ more.groups }
