-- Where the program's own folder stands, and what stands in it. Own.
use Rattle.std.specs.Prelude.{◌≡◌, ℕ, List, ◌++◌, codes, string_bytes}
use Rattle.tup_db.specs.declared.own.Own.{Own}

-- the places are those below a top folder
abbrev pub IsOwnBelow : List ℕ → Own → Type 0
IsOwnBelow top own =
    (string_bytes own.folder ≡ top ++ codes "/.tup")
    × (string_bytes own.store ≡ top ++ codes "/.tup/db")
    × (string_bytes own.aside ≡ top ++ codes "/.tup/db.new")
    × (string_bytes own.epoch ≡ top ++ codes "/.tup/epoch")
    × (string_bytes own.epoch_aside ≡ top ++ codes "/.tup/epoch.new")
