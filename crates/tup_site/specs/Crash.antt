-- What a crash may leave. `left_since site t w` says: a crash at some moment of the site since t may leave the world w.
-- A crash now is one since this moment.
use Rattle.std.specs.Prelude.{◌≡◌, ◌⊎◌, ℕ, ◌≤◌, List, length, take}
use Rattle.tup_path.specs.Name.{Names, Content}
use Rattle.tup_site.specs.World.{World, TreeStays, StoreStays}
use Rattle.tup_site.specs.Store.{IsTorn}
use Rattle.tup_site.specs.Cause.{SameBut}
use Rattle.tup_site.specs.Known.{Joins}

-- a world comes by a step from one that may be left
abbrev pub Follows : (World → World → Type 0) → (World → Type 0) → World → Type 0
Follows step left w = (v : World) × left v × step v w

-- A call goes on from old to new. What a crash since an earlier moment may leave then, it may have left before the call,
-- or it comes by this step from what a crash right before the call may leave.
pub record GoesOn {S : Type 0} (moment : S → ℕ) (left_since : S → ℕ → World → Type 0) (old new : S) (step : World → World → Type 0) : Type 0 where
  pub later : moment old ≤ moment new
  pub kept : (t : ℕ) (w : World) → t ≤ moment old → left_since old t w → left_since new t w
  pub since : (t : ℕ) (w : World) → t ≤ moment old → left_since new t w → left_since old t w ⊎ Follows step (left_since old (moment old)) w

-- a call that adds nothing to what a crash may leave
abbrev pub NoStep : World → World → Type 0
NoStep v w = ⊥

-- a call that changes the file at one path, after which these contents are known
pub record FileStep (path : Names) (contents : List Content) (v w : World) : Type 0 where
  pub others : SameBut path v.tree w.tree
  pub store : StoreStays v w
  pub joins : Joins contents w.tree

-- a call that writes n bytes of the store: the range holds any bytes, up to any part of it
pub record WriteStep (at n : ℕ) (v w : World) : Type 0 where
  pub torn : IsTorn at n v.store w.store
  pub tree : TreeStays v w

-- a call that cuts the store: past the cut stand any bytes, up to any length that was
pub record CutStep (len : ℕ) (v w : World) : Type 0 where
  pub front : take len w.store ≡ take len v.store
  pub no_longer : length w.store ≤ length v.store
  pub tree : TreeStays v w

-- from now on a crash leaves this tree, whatever else it leaves
abbrev pub PinsTree : (World → Type 0) → World → Type 0
PinsTree left now = (w : World) → left w → TreeStays now w

-- from now on a crash leaves these bytes of the store, whatever else it leaves
abbrev pub PinsStore : (World → Type 0) → World → Type 0
PinsStore left now = (w : World) → left w → StoreStays now w

-- A crash at any moment since old leaves a world that has P.
pub record LeavesOnly {S : Type 0} (moment : S → ℕ) (left_since : S → ℕ → World → Type 0) (old new : S) (P : World → Type 0) : Type 0 where
  pub later : moment old ≤ moment new
  pub each : (w : World) → left_since new (moment old) w → P w
  -- for a run that began earlier
  pub before : (t : ℕ) (w : World) → t ≤ moment old → left_since new t w → left_since old t w ⊎ P w
