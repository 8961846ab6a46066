-- Words that name folders and groups, from the manual; that a word without a slash stands in the folder that is read is own.
-- A word is a bin or a group by what is between its marks, since the name is needed there.
use Rattle.std.specs.Prelude.{ℕ, ◌+◌, ◌-◌, ◌==◌, Bool, if◌then◌else◌, List, [], length, take, slice_get, codes, Option, Some, None, is_some, option_and_then, unwrap_or, Result, Ok}
use Rattle.std.specs.Result.{result_ok}
use Rattle.tup_path.specs.Name.{Names}
use Rattle.tup_path.specs.Order.{same_path}
use Rattle.tup_path.specs.Resolve.{below, resolve}
use Rattle.tup_path.specs.declared.fault.PathFault.{PathFault}
use Rattle.tup_lex.specs.Word.{last_name}
use Rattle.tup_lex.specs.declared.kind.ParseKind.{ParseKind}
use Rattle.tup_rule.specs.declared.draft.GroupRef.{GroupRef}
use Rattle.tup_query.specs.declared.fault.ParseFault.{ParseFault}
use Rattle.tup_vars.specs.Config.{behind}
use Rattle.tup_query.specs.Reads.{Reads}
use Rattle.tup_rule_line.specs.Caret.{unless_empty}
use Rattle.tup_rule_line.specs.Last.{before_last}
use Rattle.tup_query.specs.Spot.{Spot}
use Rattle.tup_query.specs.Text.{taken}

-- the name of a file by its path, if it stands in this folder
abbrev pub name_in : Names → Names → Option (List ℕ)
name_in dir path = let last = length path - 1 in elim (slice_get path last) [
  | Some name ↦ if same_path dir (take last path) then Some name else None
  | None ↦ None
]

-- the path of a file in a folder, unless it has more names than a path may have
abbrev pub file_in : Names → List ℕ → Option Names
file_in dir name = result_ok (below dir name)

-- what stands before the last slash of a word
abbrev pub front_of : List ℕ → Option (List ℕ)
front_of word =
    let name = length (last_name word) in
    if name == length word then None else Some (take (length word - (name + 1)) word)

-- the name of the bin that a word is: what stands between its braces, if there is something
abbrev pub bin_name : List ℕ → Option (List ℕ)
bin_name word = option_and_then unless_empty (option_and_then (before_last 125) (behind (codes "{") word))

-- the name of the group that a word is, which its last name has between `<` and `>`
abbrev pub group_name : List ℕ → Option (List ℕ)
group_name word = option_and_then unless_empty (option_and_then (before_last 62) (behind (codes "<") (last_name word)))

-- whether a word is a group
abbrev pub is_group : List ℕ → Bool
is_group word = is_some (group_name word)

-- the folder of a word: the one that is read, where no slash stands in it
abbrev pub folder_at : Names → List ℕ → Result Names PathFault
folder_at dir word = elim (front_of word) [ Some front ↦ resolve dir front | None ↦ Ok dir ]

-- where a text leads, or a fault of this kind
abbrev pub led : Spot → ParseKind → Names → List ℕ → Reads ParseFault Names
led at kind dir text = taken at (λ (fault : PathFault). kind) (resolve dir text)

-- the folder of a word, or a fault of this kind
abbrev pub led_to_folder : Spot → ParseKind → List ℕ → Reads ParseFault Names
led_to_folder at kind word = taken at (λ (fault : PathFault). kind) (folder_at at.dir word)

-- a group by its folder, and the word that names it
abbrev pub group_in : Names → List ℕ → GroupRef
group_in dir word = record { dir = dir; name = unwrap_or (group_name word) [] }
