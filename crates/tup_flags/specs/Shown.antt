-- What a flag shows of files, from the manual; where an extension begins is own.
use Rattle.std.specs.Prelude.{ℕ, ◌-◌, ◌==◌, Bool, not, ◌&&◌, if◌then◌else◌, List, [], ◌∷◌, length, map, slice_get, unwrap_or}
use Rattle.std.specs.List.{list_any, flat_map, before_last, after_last, join_with_byte}
use Rattle.tup_path.specs.Name.{Names}
use Rattle.tup_path.specs.Show.{show_from}
use Rattle.tup_flags.specs.declared.shown.Side.{Side}
use Rattle.tup_flags.specs.declared.shown.Side.TheVariants.{Way, Trunk, Name, Stem, Extension}

-- a dot begins an extension
abbrev pub is_dot : ℕ → Bool
is_dot byte = byte == 46

-- a slash parts the names of a path
abbrev pub is_slash : ℕ → Bool
is_slash byte = byte == 47

-- the last name of a path; the top directory has none
abbrev pub last_name : Names → List ℕ
last_name path = unwrap_or (slice_get path (length path - 1)) []

-- whether a text ends in an extension: it has a dot, and no slash behind the last one
abbrev pub has_extension : List ℕ → Bool
has_extension text = list_any is_dot text && not (list_any is_slash (after_last is_dot text))

-- a text without the extension that it ends in, and without the dot before that
abbrev pub without_extension : List ℕ → List ℕ
without_extension text = if has_extension text then before_last is_dot text else text

-- what stands behind the last dot of a name
abbrev pub extension : List ℕ → List ℕ
extension name = if list_any is_dot name then after_last is_dot name else []

-- what is shown of a file from a folder
abbrev pub shown : Names → Side → Names → List ℕ
shown dir Way path = show_from dir path
shown dir Trunk path = without_extension (show_from dir path)
shown dir Name path = last_name path
shown dir Stem path = without_extension (last_name path)
shown dir Extension path = extension (last_name path)

-- what is shown of each of some files, each behind a space
abbrev pub further : Names → Side → List Names → List ℕ
further dir side paths = flat_map (λ path. 32 ∷ shown dir side path) paths

-- what is shown of each of some files, parted by one space
abbrev pub listed : Names → Side → List Names → List ℕ
listed dir side paths = join_with_byte 32 (map (shown dir side) paths)
