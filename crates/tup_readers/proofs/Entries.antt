-- The entries of a map are what it has at their keys.
use Rattle.std.specs.Prelude.{◌≡◌, ◌⊎◌, ◌&&◌, zero, suc, Bool, true, false, cond, List, [], ◌∷◌, None, Some, Contains, Decides}
use Rattle.std.proofs.Common.{refl, sym, ap, subst, ◌∙◌, inl, inr, arith}
use Rattle.std.specs.declared.cmp.Ordering.{Ordering}
use Rattle.std.specs.declared.cmp.Ordering.TheVariants.{Less, Equal, Greater}
use Rattle.std.specs.Ordering.{eq_by_cmp, is_lt, is_eq, ordering_reverse}
use Rattle.std.specs.Cmp.{IsTotalOrder, eq_by_cmp_equiv}
use Rattle.std.specs.FinMap as finite
use Rattle.std.specs.FinMap.{FinMap, IsAntisymmetric, find, is_sorted}
use Rattle.std.specs.FinMap.Entries.{below_all}
use Rattle.std.proofs.Math.Dec.{T}
use Rattle.std.proofs.lemmas.Bool.{false≢true}

pub in_front : {X : Type 0} (x : X) (xs : List X) → Contains (x ∷ xs) x
in_front x xs = (0, omega arith, refl)

pub behind_front : {X : Type 0} (x y : X) (xs : List X) → Contains xs y → Contains (x ∷ xs) y
behind_front x y xs h = let less = h.1 in (suc h.0, omega arith, h.2)

pub front_or_behind : {X : Type 0} (x y : X) (xs : List X) → Contains (x ∷ xs) y → (x ≡ y) ⊎ Contains xs y
front_or_behind x y xs (zero, less, is) = inl is
front_or_behind x y xs (suc k, less, is) = inr (k, omega arith, is)

pub none_in : {X : Type 0} (x : X) → Contains [] x → ⊥
none_in x h = let less = h.1 in omega arith

pub less_is : (r : Ordering) → is_lt r ≡ true → r ≡ Less
less_is Less e = refl
less_is Equal e = absurd (false≢true e)
less_is Greater e = absurd (false≢true e)

pub holds : (b : Bool) → T b → b ≡ true
holds true t = refl
holds false t = absurd t

left_of : (a b : Bool) → T (a && b) → T a
left_of true b t = tt
left_of false b t = absurd t

right_of : (a b : Bool) → T (a && b) → T b
right_of true b t = t
right_of false b t = absurd t

equal_of : (r : Ordering) → is_eq r ≡ true → r ≡ Equal
equal_of Less e = cc
equal_of Equal e = refl
equal_of Greater e = cc

-- where only equal keys tie, the order tells which are equal
pub exact-decides : {K : Type 0} {R : K → K → Ordering} → IsTotalOrder R → IsAntisymmetric R → (x y : K) → Decides (eq_by_cmp R x y) (x ≡ y)
exact-decides {K} {R} total exact x y = (
  λ e. exact x y (equal_of (R x y) e),
  λ e. subst (λ z. eq_by_cmp R x z ≡ true) e ((eq_by_cmp_equiv total).refl x),
)

less_apart : (o : Ordering) → T (is_lt o) → is_eq (ordering_reverse o) ≡ false
less_apart Less t = refl
less_apart Equal t = absurd t
less_apart Greater t = absurd t

apart : {K : Type 0} {R : K → K → Ordering} → IsTotalOrder R → (q k : K) → T (is_lt (R k q)) → eq_by_cmp R q k ≡ false
apart {R = R} total q k less = ap is_eq (total.antisymm q k) ∙ less_apart (R k q) less

module _ {K X : Type 0} {R : K → K → Ordering} (total : IsTotalOrder R) (exact : IsAntisymmetric R) where
  found_in : (es : List (K × X)) (q : K) (x : X) → find R q es ≡ Some x → Contains es (q, x)
  found_in [] q x e = absurd (let wrong : None ≡ Some x = e in cc)
  found_in (first ∷ es) q x e = either (eq_by_cmp R q first.0) refl (found_in es q x) e
    where
      either : (b : Bool) → eq_by_cmp R q first.0 ≡ b → (find R q es ≡ Some x → Contains es (q, x)) → cond b (Some first.1) (find R q es) ≡ Some x → Contains (first ∷ es) (q, x)
      either true same more e =
          let value : first.1 ≡ x = cc in
          subst (Contains (first ∷ es)) (λ i. (sym ((exact-decides total exact q first.0).0 same) i, value i)) (in_front first es)
      either false apart more e = behind_front first (q, x) es (more e)

  above_head : (k : K) (es : List (K × X)) (e : K × X) → T (below_all R k es) → Contains es e → T (is_lt (R k e.0))
  above_head k [] e up h = absurd (none_in e h)
  above_head k (first ∷ es) e up h = elim (front_or_behind first e es h) [
    | inl same ↦ subst (λ (x : K × X). T (is_lt (R k x.0))) same (left_of (is_lt (R k first.0)) (below_all R k es) up)
    | inr later ↦ above_head k es e (right_of (is_lt (R k first.0)) (below_all R k es) up) later
  ]

  entry_in : (es : List (K × X)) (e : K × X) → T (is_sorted R es) → Contains es e → find R e.0 es ≡ Some e.1
  entry_in [] e up h = absurd (none_in e h)
  entry_in (first ∷ es) e up h = elim (front_or_behind first e es h) [
    | inl same ↦ ap (λ (b : Bool). cond b (Some first.1) (find R e.0 es)) ((exact-decides total exact e.0 first.0).1 (λ i. (sym same i).0)) ∙ ap (λ (x : K × X). Some x.1) same
    | inr later ↦
        ap (λ (b : Bool). cond b (Some first.1) (find R e.0 es)) (apart total e.0 first.0 (above_head first.0 es e (left_of (below_all R first.0 es) (is_sorted R es) up) later))
        ∙ entry_in es e (right_of (below_all R first.0 es) (is_sorted R es) up) later
  ]

  -- an entry is what its map has at its key
  pub found_entry : (m : FinMap R X) (q : K) (x : X) → Contains (finite.entries m) (q, x) → finite.get m q ≡ Some x
  found_entry m q x h = finite.get-entries m q ∙ entry_in (finite.entries m) (q, x) (finite.entries_sorted m) h

  pub entry_found : (m : FinMap R X) (q : K) (x : X) → finite.get m q ≡ Some x → Contains (finite.entries m) (q, x)
  entry_found m q x e = found_in (finite.entries m) q x (sym (finite.get-entries m q) ∙ e)
