-- Ordered sets that grow one after another.
use Rattle.std.specs.Prelude.{◌≡◌, ◌⊎◌, true, Decides}
use Rattle.std.specs.BTreeSet.{BTreeSet, IsOrdered, Updates}
use Rattle.std.specs.Ordering.{eq_by_cmp}
use Rattle.std.specs.declared.cmp.Ordering.{Ordering}
use Rattle.tup_closure.proofs.Growing.{grows_on, grows_as, grows_nothing}
use Rattle.tup_closure.proofs.Members.{inserted}
use Rattle.tup_scan_diff.specs.Sets.{GrowsBy}

module _ {K : Type 0} {cmp : K → K → Ordering} where
  pub set_on : {P Q : K → Type 0} {a b c : BTreeSet K} → GrowsBy cmp P a b → GrowsBy cmp Q b c → GrowsBy cmp (λ k. P k ⊎ Q k) a c
  set_on one two = record { keys = grows_on one.keys two.keys; ordered = λ o. two.ordered (one.ordered o) }

  pub set_as : {P Q : K → Type 0} {a b : BTreeSet K} → ((k : K) → P k → Q k) → ((k : K) → Q k → P k) → GrowsBy cmp P a b → GrowsBy cmp Q a b
  set_as to from one = record { keys = grows_as to from one.keys; ordered = one.ordered }

  pub set_stays : {P : K → Type 0} (a : BTreeSet K) → ((k : K) → P k → ⊥) → GrowsBy cmp P a a
  set_stays a none = record { keys = grows_nothing none; ordered = λ o. o }

module _ {K : Type 0} (cmp : K → K → Ordering) (decides : (x y : K) → Decides (eq_by_cmp cmp x y) (x ≡ y)) where
  pub one_key : (old new : BTreeSet K) (key : K) → Updates cmp old new key true → IsOrdered cmp new → GrowsBy cmp (λ k. k ≡ key) old new
  one_key old new key up ordered = record { keys = inserted cmp decides old new key up; ordered = λ _. ordered }

-- something is added where a fact holds
pub added_if : {K : Type 0} {cmp : K → K → Ordering} {P : Type 0} (key : K) (a b : BTreeSet K) → P → GrowsBy cmp (λ k. k ≡ key) a b → GrowsBy cmp (λ k. (k ≡ key) × P) a b
added_if key a b holds = set_as (λ k e. (e, holds)) (λ k h. h.0)
