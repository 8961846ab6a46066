-- How changes and commits are spelled in bytes (own). Numbers are written with the high byte first.
use Rattle.std.specs.Prelude.{ℕ, ◌<◌, ◌^◌, List, ◌∷◌, ◌++◌, length}
use Rattle.std.specs.List.{flat_map, AllByRecursion}
use Rattle.byteorder.specs.Endian.{big_bytes}
use Rattle.tup_table.specs.declared.change.Change.{Change}
use Rattle.tup_table.specs.declared.change.Change.TheVariants.{Put, Delete}

-- bytes behind their length, which has n bytes
abbrev pub sized : ℕ → List ℕ → List ℕ
sized n bytes = big_bytes n (length bytes) ++ bytes

-- a length has room in n bytes
abbrev pub IsSized : ℕ → List ℕ → Type 0
IsSized n bytes = length bytes < 256 ^ n

-- a change: the mark 1, a key and a value, or the mark 2 and a key
abbrev pub change_spelling : Change → List ℕ
change_spelling (Put key value) = 1 ∷ (sized 2 key ++ sized 4 value)
change_spelling (Delete key) = 2 ∷ sized 2 key

-- it has a spelling
abbrev pub ChangeFits : Change → Type 0
ChangeFits (Put key value) = IsSized 2 key × IsSized 4 value
ChangeFits (Delete key) = IsSized 2 key

-- the changes of a commit, one behind the other
abbrev pub payload : List Change → List ℕ
payload changes = flat_map change_spelling changes

-- they have a spelling
abbrev pub ChangesFit : List Change → Type 0
ChangesFit changes = AllByRecursion ChangeFits changes

-- a commit: its changes behind their length
abbrev pub commit : List Change → List ℕ
commit changes = sized 4 (payload changes)

-- it has a spelling
abbrev pub CommitFits : List Change → Type 0
CommitFits changes = ChangesFit changes × IsSized 4 (payload changes)

-- commits, each behind its open gate
abbrev pub blocks : List (List Change) → List ℕ
blocks commits = flat_map (λ changes. 1 ∷ commit changes) commits
