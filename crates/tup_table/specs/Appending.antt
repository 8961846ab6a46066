-- How a store takes a commit (own).
use Rattle.std.specs.Prelude.{ℕ, ◌≤◌, List, [], ◌∷◌, ◌++◌, length}
use Rattle.tup_table.specs.declared.change.Change.{Change}
use Rattle.tup_table.specs.declared.change.Change.TheVariants.{Put, Delete}
use Rattle.tup_table.specs.Spelling.{commit}

-- the key has at most 65,535 bytes
abbrev pub HasShortKey : Change → Type 0
HasShortKey (Put key value) = length key ≤ 65535
HasShortKey (Delete key) = length key ≤ 65535

-- what is written behind a gate: the commit, and the next gate, which is closed
abbrev pub appending : List Change → List ℕ
appending changes = commit changes ++ 0 ∷ []
