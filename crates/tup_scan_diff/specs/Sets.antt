-- Ordered sets that grow (own).
use Rattle.std.specs.Prelude.{◌≡◌, true}
use Rattle.std.specs.BTreeSet.{BTreeSet, contains, IsOrdered}
use Rattle.std.specs.declared.cmp.Ordering.{Ordering}
use Rattle.tup_closure.specs.Grows.{Grows}

-- something is in a set
abbrev pub Has : {K : Type 0} → (K → K → Ordering) → BTreeSet K → K → Type 0
Has cmp set key = contains cmp set key ≡ true

-- a set that has just these more, in order if it was
pub record GrowsBy {K : Type 0} (cmp : K → K → Ordering) (Added : K → Type 0) (old new : BTreeSet K) : Type 0 where
  pub keys : Grows Added (Has cmp old) (Has cmp new)
  pub ordered : IsOrdered cmp old → IsOrdered cmp new
