-- Files that are removed one after another (own).
use Rattle.std.specs.Prelude.{◌≡◌, ◌≤◌, ℕ, false, List, fold, length, take, Option, None, Some, slice_get}
use Rattle.std.specs.FinMap as finite
use Rattle.tup_path.specs.Name.{Names}
use Rattle.tup_path.specs.Tree.{Tree}
use Rattle.tup_site.specs.Cause.{SameBut}
use Rattle.tup_site.specs.World.{World, StoreStays}
use Rattle.tup_rule.specs.Rule.{among}

-- a tree without the files at some paths
abbrev pub without : Tree → List Names → Tree
without tree paths = fold finite.remove tree paths

-- two trees agree beside some paths
abbrev pub SameBeside : List Names → Tree → Tree → Type 0
SameBeside paths old new = (path : Names) → among path paths ≡ false → finite.get new path ≡ finite.get old path

-- a tree in which the file at one path holds anything or is gone, where there is such a path
abbrev pub IsTried : Option Names → Tree → Tree → Type 0
IsTried (Some path) old new = SameBut path old new
IsTried None old new = new ≡ old

-- so many of some files are gone, the next one holds anything or is gone, and all others stand
pub record IsPart (files : List Names) (old new : Tree) : Type 0 where
  pub gone : ℕ
  pub within : gone ≤ length files
  pub next : IsTried (slice_get files gone) (without old (take gone files)) new

-- what the removal of files adds to what a crash may leave
pub record FilesStep (files : List Names) (v w : World) : Type 0 where
  pub others : SameBeside files v.tree w.tree
  pub store : StoreStays v w
