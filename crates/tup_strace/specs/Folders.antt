-- The folder in which each process of a command works: that of the one that made it, until it enters another. Threads share the
-- folder of their process.
use Rattle.std.specs.Prelude.{ℕ, Bool, if◌then◌else◌, List, Option, Some, None, unwrap_or}
use Rattle.std.specs.FinMap as finite
use Rattle.tup_strace.specs.declared.folders.Folders.{Folders}

-- a command that begins in a folder, and of whose processes none is known
abbrev pub none_entered : List ℕ → Folders
none_entered dir = record { dir = dir; owners = finite.empty; parents = finite.empty; entered = finite.empty }

-- the process whose folder a process has
abbrev pub owner_of : Folders → List ℕ → List ℕ
owner_of folders process = unwrap_or (finite.get folders.owners process) process

-- a process made a child, which shares its folder or not
abbrev pub with_child : Folders → List ℕ → List ℕ → Bool → Folders
with_child folders parent child shares = record folders {
  owners = finite.insert folders.owners child (if shares then owner_of folders parent else child);
  parents = finite.insert folders.parents child parent;
}

-- the folder that a process entered last, or else that in which the command began
abbrev pub last_of : Folders → List ℕ → List ℕ
last_of folders process = unwrap_or (finite.get folders.entered process) folders.dir

-- the folder in which a process begins
abbrev pub inherited : Folders → List ℕ → List ℕ
inherited folders process = by (finite.get folders.parents process)
  where
    by : Option (List ℕ) → List ℕ
    by None = folders.dir
    by (Some parent) = last_of folders (owner_of folders parent)

-- the folder of a process
abbrev pub folder_of : Folders → List ℕ → List ℕ
folder_of folders process = let owner = owner_of folders process in unwrap_or (finite.get folders.entered owner) (inherited folders owner)

-- a process enters a folder
abbrev pub with_folder : Folders → List ℕ → List ℕ → Folders
with_folder folders process path = record folders { entered = finite.insert folders.entered (owner_of folders process) path }

-- whether a process is known to have done something
abbrev pub is_known : Folders → List ℕ → Bool
is_known folders process = finite.contains_key folders.entered (owner_of folders process)

-- a process did something: where no folder is known of it, it works in that of the other
abbrev pub settled : Folders → List ℕ → List ℕ → Folders
settled folders process other = if is_known folders process then folders else with_folder folders process (folder_of folders other)
