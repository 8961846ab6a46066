-- What can't be refuted holds, of what can be looked up.
use Rattle.std.specs.Prelude.{◌≡◌, ◌⊎◌, Bool, true, false, List, ℕ, [], ◌∷◌, Option, None, Some, Contains, Decides, bytes_eq}
use Rattle.std.proofs.Common.{refl, sym, ap, subst, inl, inr}
use Rattle.std.specs.List.{AllByRecursion}
use Rattle.std.specs.List.Sorted.{IsStrictlySortedBy}
use Rattle.std.specs.declared.cmp.Ordering.{Ordering}
use Rattle.std.specs.declared.cmp.Ordering.TheVariants.{Less, Equal, Greater}
use Rattle.std.proofs.lemmas.Bool.{false≢true}
use Rattle.tup_path.specs.Name.{Names}
use Rattle.tup_path.specs.Order.{by_bytes, same_path}
use Rattle.tup_path.proofs.Same.{same_bytes-decides, same_path-decides}
use Rattle.tup_stamp.specs.declared.Stamp.{Stamp}
use Rattle.tup_readers.proofs.Entries.{behind_front, front_or_behind, in_front, none_in}

-- what isn't refuted holds
abbrev pub Stable : Type 0 → Type 0
Stable P = ((P → ⊥) → ⊥) → P

-- it holds, or it doesn't
abbrev pub Settled : Type 0 → Type 0
Settled P = P ⊎ (P → ⊥)

pub stable_of : {P : Type 0} → Settled P → Stable P
stable_of (inl p) unrefuted = p
stable_of (inr none) unrefuted = absurd (unrefuted none)

pub settled_by : {P : Type 0} (b : Bool) → Decides b P → Settled P
settled_by true decides = inl (decides.0 refl)
settled_by false decides = inr (λ p. false≢true (decides.1 p))

pub stable_never : Stable ⊥
stable_never unrefuted = unrefuted (λ never. never)

pub stable_not : {P : Type 0} → Stable (P → ⊥)
stable_not unrefuted p = unrefuted (λ none. none p)

pub stable_both : {P Q : Type 0} → Stable P → Stable Q → Stable (P × Q)
stable_both p q unrefuted = (p (λ none. unrefuted (λ both. none both.0)), q (λ none. unrefuted (λ both. none both.1)))

pub stable_either : {P Q : Type 0} → Settled P → Stable Q → Stable (P ⊎ Q)
stable_either (inl p) q unrefuted = inl p
stable_either {P} {Q} (inr no_p) q unrefuted = inr (q (λ no_q. unrefuted (neither no_q)))
  where
    neither : (Q → ⊥) → P ⊎ Q → ⊥
    neither no_q (inl p) = no_p p
    neither no_q (inr one) = no_q one

pub settled_both : {P Q : Type 0} → Settled P → Settled Q → Settled (P × Q)
settled_both (inl p) (inl q) = inl (p, q)
settled_both (inl p) (inr no_q) = inr (λ both. no_q both.1)
settled_both (inr no_p) q = inr (λ both. no_p both.0)

-- ---- whether two are the same

pub is_true : (b : Bool) → Settled (b ≡ true)
is_true true = inl refl
is_true false = inr false≢true

is_less : (o : Ordering) → Settled (o ≡ Less)
is_less Less = inl refl
is_less Equal = inr (λ e. cc)
is_less Greater = inr (λ e. cc)

pub same_options : {X : Type 0} → ((x y : X) → Settled (x ≡ y)) → (a b : Option X) → Settled (a ≡ b)
same_options each None None = inl refl
same_options each None (Some y) = inr (λ e. cc)
same_options each (Some x) None = inr (λ e. cc)
same_options each (Some x) (Some y) = by (each x y)
  where
    by : Settled (x ≡ y) → Settled (Some x ≡ Some y)
    by (inl same) = inl (ap Some same)
    by (inr apart) = inr (λ e. apart (let same : x ≡ y = cc in same))

pub same_texts : (x y : List ℕ) → Settled (x ≡ y)
same_texts x y = settled_by (bytes_eq x y) (same_bytes-decides x y)

pub same_paths : (x y : Names) → Settled (x ≡ y)
same_paths x y = settled_by (same_path x y) (same_path-decides x y)

pub same_stamps : (x y : Stamp) → Settled (x ≡ y)
same_stamps x y = by (same_texts x.0 y.0)
  where
    by : Settled (x.0 ≡ y.0) → Settled (x ≡ y)
    by (inl same) = inl (λ i. record { 0 = same i })
    by (inr apart) = inr (λ e. apart (ap (λ (s : Stamp). s.0) e))

pub same_seen : (a b : Option Stamp) → Settled (a ≡ b)
same_seen = same_options same_stamps

-- ---- in a list

pub held : {X : Type 0} → ((x y : X) → Settled (x ≡ y)) → (xs : List X) (y : X) → Settled (Contains xs y)
held each [] y = inr (none_in y)
held each (x ∷ xs) y = by (each x y) (held each xs y)
  where
    neither : (x ≡ y → ⊥) → (Contains xs y → ⊥) → (x ≡ y) ⊎ Contains xs y → ⊥
    neither apart none (inl same) = apart same
    neither apart none (inr later) = none later

    by : Settled (x ≡ y) → Settled (Contains xs y) → Settled (Contains (x ∷ xs) y)
    by (inl same) rest = inl (subst (Contains (x ∷ xs)) same (in_front x xs))
    by (inr apart) (inl later) = inl (behind_front x y xs later)
    by (inr apart) (inr none) = inr (λ h. neither apart none (front_or_behind x y xs h))

module _ {X : Type 0} (P : X → Type 0) (each : (x : X) → Settled (P x)) where
  abbrev IsThere : List X → Type 0
  IsThere xs = (x : X) × Contains xs x × P x

  -- one of a list has a property, or none has
  pub found : (xs : List X) → Settled ((x : X) × Contains xs x × P x)
  found [] = inr (λ (x, h, p). none_in x h)
  found (first ∷ xs) = by (each first) (found xs)
    where
      neither : (P first → ⊥) → (IsThere xs → ⊥) → (x : X) → P x → (first ≡ x) ⊎ Contains xs x → ⊥
      neither no_first none x p (inl same) = no_first (subst P (sym same) p)
      neither no_first none x p (inr later) = none (x, later, p)

      by : Settled (P first) → Settled (IsThere xs) → Settled (IsThere (first ∷ xs))
      by (inl p) rest = inl (first, in_front first xs, p)
      by (inr no_first) (inl (x, h, p)) = inl (x, behind_front first x xs h, p)
      by (inr no_first) (inr none) = inr (λ (x, h, p). neither no_first none x p (front_or_behind first x xs h))

  pub stable_rows : (xs : List X) → Stable (AllByRecursion P xs)
  stable_rows [] unrefuted = tt
  stable_rows (x ∷ xs) unrefuted = stable_both (stable_of (each x)) (stable_rows xs) unrefuted

pub stable_sorted : (names : List (List ℕ)) → Stable (IsStrictlySortedBy by_bytes names)
unfolding IsStrictlySortedBy
stable_sorted [] unrefuted = tt
stable_sorted (x ∷ xs) unrefuted = stable_both (stable_rows (λ (y : List ℕ). by_bytes x y ≡ Less) (λ y. is_less (by_bytes x y)) xs) (stable_sorted xs) unrefuted
