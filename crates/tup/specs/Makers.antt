-- Who else may have made the file at the place of the store, and what is said of that. Own.
use Rattle.std.specs.Prelude.{ℕ, List, [], ◌∷◌, nat_eq, Option, Some, None, if◌then◌else◌, codes}
use Rattle.std.specs.List.{starts_with}
use Rattle.tup.specs.declared.makers.Maker.{Maker}
use Rattle.tup.specs.declared.makers.Maker.TheVariants.{Early, Other}

-- who made a store that begins so, if it isn't one of this version and that is seen: another program of this name keeps an SQLite
-- file, and stores of early versions begin with `tup-db`, a line feed and a 1
abbrev pub maker_of : List ℕ → Option Maker
maker_of first = if starts_with nat_eq first (codes "SQLite format 3") then Some Other
    else if starts_with nat_eq first (116 ∷ 117 ∷ 112 ∷ 45 ∷ 100 ∷ 98 ∷ 10 ∷ 1 ∷ []) then Some Early
    else None

-- what is said of a store that another made, after its place
abbrev pub said_of : Maker → List ℕ
said_of Early = codes "is of an early version: remove it and the files that were made, then `tup init` begins anew"
said_of Other = codes "is of another tup (SQLite): move .tup away"
