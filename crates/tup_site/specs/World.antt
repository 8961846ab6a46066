-- The outside as contracts see it: a tree of files, and a store of bytes.
use Rattle.std.specs.Prelude.{◌≡◌, ℕ, List}
use Rattle.tup_path.specs.Tree.{Tree}

-- the files of a site and the bytes of its store
pub record World : Type 0 where
  pub tree : Tree
  pub store : List ℕ

-- the frame of a call of the store
abbrev pub TreeStays : World → World → Type 0
TreeStays old new = new.tree ≡ old.tree

-- the frame of a call of the tree
abbrev pub StoreStays : World → World → Type 0
StoreStays old new = new.store ≡ old.store
