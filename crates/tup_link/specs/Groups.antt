-- The groups of a project: each has what the rules of all folders give to it. From the manual; the order is own.
use Rattle.std.specs.Prelude.{◌≡◌, Bool, false, if◌then◌else◌, List, [], fold, unwrap_or}
use Rattle.std.specs.BTreeSet.{insert_key}
use Rattle.std.specs.List.{flat_map}
use Rattle.std.specs.Option.{option_map_or}
use Rattle.tup_path.specs.Name.{Names}
use Rattle.tup_path.specs.Order.{by_names}
use Rattle.tup_rule.specs.declared.draft.Draft.{Draft}
use Rattle.tup_rule.specs.declared.draft.GroupRef.{GroupRef}
use Rattle.tup_macro.specs.Gifts.{GiftsTo, same_group, members_of}

-- whether a draft gives its outputs to a group
abbrev pub gives_to : GroupRef → Draft → Bool
gives_to group draft = option_map_or (λ other. same_group other group) draft.gives false

-- what drafts give to a group, in their order
abbrev pub given_to : GroupRef → List Draft → List Names
given_to group drafts = flat_map (λ (draft : Draft). if gives_to group draft then draft.outputs else []) drafts

-- paths in their order, each once
abbrev pub in_order : List Names → List Names
in_order paths = fold (insert_key by_names) [] paths

-- the members of a group: what the drafts of the whole project give to it, in the order of paths, each once
unfoldable pub members : List Draft → GroupRef → List Names
members drafts group = in_order (given_to group drafts)

-- what a table of groups has of a group; nothing where it hasn't the group
abbrev pub listed : GiftsTo GroupRef → GroupRef → List Names
listed groups group = unwrap_or (members_of same_group groups group) []

-- a table that has the members of each group
pub record HasMembers (drafts : List Draft) (groups : GiftsTo GroupRef) : Type 0 where
  pub each : (group : GroupRef) → listed groups group ≡ members drafts group

-- a table after paths were given to a group
abbrev pub GivesAll : GroupRef → List Names → GiftsTo GroupRef → GiftsTo GroupRef → Type 0
GivesAll to paths old new =
    (group : GroupRef) → listed new group ≡ fold (insert_key by_names) (listed old group) (if same_group to group then paths else [])

-- a table after a draft gave to its group
abbrev pub Gives : Draft → GiftsTo GroupRef → GiftsTo GroupRef → Type 0
Gives draft old new =
    (group : GroupRef) → listed new group ≡ fold (insert_key by_names) (listed old group) (if gives_to group draft then draft.outputs else [])
