-- Where a file may stand (own).
use Rattle.std.specs.Prelude.{◌<◌, List, All, length}
use Rattle.tup_path.specs.Name.{Names}
use Rattle.tup_path.specs.Tree.{IsBelow}

-- of two paths none lies below the other
pub record IsBeside (path other : Names) : Type 0 where
  pub not_below : IsBelow path other → ⊥
  pub not_above : IsBelow other path → ⊥

-- a path isn't the top, and lies beside all of these
pub record MayStand (paths : List Names) (path : Names) : Type 0 where
  pub not_top : 0 < length path
  pub beside : All (IsBeside path) paths
