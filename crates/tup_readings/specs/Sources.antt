-- What the sources of a project say of its folders (own).
pub use Rattle.tup_rule_line.specs.Below.{is_below}
use Rattle.std.specs.Prelude.{ℕ, Bool, if◌then◌else◌, List, [], ◌∷◌, ◌++◌, codes, Option, Some, None, is_some, unwrap_or, Result}
use Rattle.std.specs.List.{list_any}
use Rattle.std.specs.FinMap as finite
use Rattle.tup_path.specs.Name.{Names}
use Rattle.tup_path.specs.Tree.{Tree}
use Rattle.tup_vars.specs.Config.{config_of}
use Rattle.tup_vars.specs.Table.{Entries}
use Rattle.tup_vars.specs.declared.fault.ConfigFault.{ConfigFault}
use Rattle.tup_rule_line.specs.Glob.{names_among, in_order}

-- whether a source stands at a path
abbrev pub is_source : Tree → Names → Bool
is_source sources path = is_some (finite.get sources path)

-- the Tupfile of a folder
abbrev pub tupfile : Names → Names
tupfile dir = dir ++ codes "Tupfile" ∷ []

-- whether a folder has a Tupfile, and so a reading
abbrev pub has_tupfile : Tree → Names → Bool
has_tupfile sources dir = is_source sources (tupfile dir)

-- a folder, if it has a Tupfile, else what stands in its place
abbrev pub own_or : Tree → Option Names → Names → Option Names
own_or sources other dir = if has_tupfile sources dir then Some dir else other

-- the last folder with a Tupfile on the way from a folder down some names, else what stands in its place
abbrev pub last_home : Tree → Option Names → Names → Names → Option Names
last_home sources other dir [] = own_or sources other dir
last_home sources other dir (name ∷ names) = last_home sources (own_or sources other dir) (dir ++ name ∷ []) names

-- the home of a folder: the nearest folder at or above it that has a Tupfile. Its rules alone may make files in the folder
abbrev pub home : Tree → Names → Option Names
home sources dir = last_home sources None [] dir

-- whether one of these paths lies below a folder
abbrev pub has_below : List Names → Names → Bool
has_below paths folder = list_any (is_below folder) paths

-- the names of the files in a folder, in byte order
abbrev pub names_in_folder : List Names → Names → List (List ℕ)
names_in_folder paths dir = in_order (names_among dir paths)

-- a folder exists while a file is below it; then it has the names of the files in it, in byte order
abbrev pub folder_of : List Names → Names → Option (List (List ℕ))
folder_of paths dir = if has_below paths dir then Some (names_in_folder paths dir) else None

-- what the tup.config of the top sets; one that isn't there is as an empty one
abbrev pub settings_of : Tree → Result Entries ConfigFault
settings_of sources = config_of (unwrap_or (finite.get sources (codes "tup.config" ∷ [])) [])
