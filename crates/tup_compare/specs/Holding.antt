-- What a site holds, as a comparison sees it: the files of its tree, and the paths that its store lists as owned.
use Rattle.std.specs.Prelude.{◌≡◌, ◌⊎◌, ℕ, List}
use Rattle.tup_path.specs.Name.{Names}
use Rattle.tup_path.specs.Tree.{Tree}
use Rattle.tup_site.specs.World.{World}
use Rattle.tup_table.specs.Entries.{Standing}
use Rattle.tup_table.specs.Images.{IsEndWritten, Leaves}
pub use Rattle.tup_ledger.specs.Listing.{Lists}

-- the files of a site, and the paths that its store lists
pub record Holding : Type 0 where
  pub tree : Tree
  pub owned : List Names

-- a world holds this: its store lists these paths. A world holds one thing alone, since bytes read in one way.
pub record Shows (w : World) (held : Holding) : Type 0 where
  pub lists : Lists w.store held.owned
  pub tree : held.tree ≡ w.tree

-- what a world holds whose store lists these paths
abbrev pub holding : World → List Names → Holding
holding w paths = record { tree = w.tree; owned = paths }

-- both are stores, of the same entries, and nothing was written but what opening a store writes
abbrev pub HasSameEntries : List ℕ → List ℕ → Type 0
HasSameEntries before after = (entries : Standing) × Leaves entries before × Leaves entries after × IsEndWritten before after

-- a later world holds what an earlier one did: it has the same files, and the same store, or one of the same entries of which
-- nothing was written but what opening a store writes
pub record HoldsOn (old new : World) : Type 0 where
  pub tree : new.tree ≡ old.tree
  pub store : (new.store ≡ old.store) ⊎ HasSameEntries old.store new.store
