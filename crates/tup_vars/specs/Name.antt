-- Names of variables and of settings (own).
use Rattle.std.specs.Prelude.{ℕ, Bool, not, ◌&&◌, ◌||◌, ◌==◌, nat_eq, List, length, codes, bytes_eq}
use Rattle.std.specs.Char.{is_ascii_alphanumeric}
use Rattle.std.specs.List.{list_all, starts_with}

-- whether a byte may stand in a name
abbrev pub is_name_byte : ℕ → Bool
is_name_byte byte = is_ascii_alphanumeric byte || byte == 95

-- whether a text is a name: one or more ASCII letters, digits and `_`
abbrev pub is_name : List ℕ → Bool
is_name name = not (length name == 0) && list_all is_name_byte name

-- the name of a setting as tup.config writes it
abbrev pub is_config : List ℕ → Bool
is_config name = starts_with nat_eq name (codes "CONFIG_")

-- the name that always stands for the directory of the file being read
abbrev pub is_cwd : List ℕ → Bool
is_cwd name = bytes_eq name (codes "TUP_CWD")

-- whether a variable may have a name
abbrev pub is_free : List ℕ → Bool
is_free name = is_name name && not (is_config name) && not (is_cwd name)
