-- The paths of folders above the working folder. Own.
use Rattle.std.specs.Prelude.{ℕ, List, ◌∷◌, ◌++◌, if◌then◌else◌, codes, bytes_eq}

-- the path of what has this path in a folder
abbrev pub inside : List ℕ → List ℕ → List ℕ
inside folder path = if bytes_eq folder (codes ".") then path else folder ++ 47 ∷ path

-- the path of the folder above
abbrev pub parent_of : List ℕ → List ℕ
parent_of folder = inside folder (codes "..")
