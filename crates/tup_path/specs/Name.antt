-- Names of files and folders, and paths as lists of names.
-- From the manual's view of a project: a tree of visible files below the top directory (the limits are own).
use Rattle.std.specs.Prelude.{◌≢◌, ℕ, ◌≤◌, List, length, All, slice_get, Some, IsUtf8}

-- a file's content, or a text, as its bytes
abbrev pub Content : Type 0
Content = List ℕ

-- a path as its names from the top down; the top directory itself is the empty list
abbrev pub Names : Type 0
Names = List (List ℕ)

-- a byte that a visible name may have: no slash, no control character, no blank, no DEL
abbrev pub IsNameByte : ℕ → Type 0
IsNameByte b = (0x21 ≤ b) × (b ≢ 0x7F) × (b ≢ 47)

-- a name of 1 to 255 bytes of UTF-8 that isn't hidden by a dot in front
pub record IsVisibleName (name : List ℕ) : Type 0 where
  pub text : IsUtf8 name
  pub not_empty : 1 ≤ length name
  pub not_long : length name ≤ 255
  pub not_hidden : slice_get name 0 ≢ Some 46
  pub bytes : All IsNameByte name

-- a path of at most 32 visible names
pub record IsPath (path : Names) : Type 0 where
  pub names : All IsVisibleName path
  pub depth : length path ≤ 32
