-- Files that are read and then digested together (own).
use Rattle.std.specs.Prelude.{◌≡◌, ◌++◌, List, Option, None, Some, map, option_map, MatchOption}
use Rattle.std.specs.FinMap as finite
use Rattle.tup_path.specs.Name.{Names, Content}
use Rattle.tup_path.specs.Tree.{Tree}
use Rattle.tup_stamp.specs.Stamp.{stamp}
use Rattle.tup_stamp.specs.declared.Stamp.{Stamp}
use Rattle.tup_scan_crew.specs.declared.batch.Batch.{Batch}
use Rattle.tup_scan_crew.specs.declared.batch.File.{File}

-- the stamp of what was read; of a file that wasn't read the one that the site told
abbrev pub stamp_by : Option Content → Stamp → Stamp
stamp_by None told = told
stamp_by (Some content) told = stamp content

-- the path of a file, with the stamp of its content
abbrev pub digested : File → Names × Stamp
digested file = (file.path, stamp_by file.content file.stamp)

-- what was found at a path is the file of the tree there, if there is one, with its stamp
abbrev pub IsReadAt : Tree → Names → Option File → Type 0
IsReadAt tree path found =
    MatchOption found (finite.get tree path ≡ None)
    (λ file. (file.path ≡ path) × (option_map stamp (finite.get tree path) ≡ Some (digested file).1))

-- its path with the stamp that it holds
abbrev pub with_stamp : File → Names × Stamp
with_stamp file = (file.path, file.stamp)

-- the stamps of a batch once its last files are digested
abbrev pub stamps_so_far : Batch → List (Names × Stamp)
stamps_so_far batch = batch.stamps ++ map digested batch.files.items
