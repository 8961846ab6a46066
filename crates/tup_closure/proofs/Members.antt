-- What is in an ordered set, and one more.
use Rattle.std.specs.Prelude.{◌≡◌, ◌⊎◌, ℕ, ◌<◌, ◌≤◌, Bool, true, false, cond, List, [], Contains, Decides, length}
use Rattle.std.proofs.Common.{refl, sym, ap, subst, ◌∙◌, inl, inr}
use Rattle.std.specs.declared.cmp.Ordering.{Ordering}
use Rattle.std.specs.Ordering.{nat_cmp, eq_by_cmp}
use Rattle.std.specs.BTreeSet.{BTreeSet, contains, Updates, IsOrdered}
use Rattle.std.specs.Cmp.{eq_by_cmp_equiv, nat_cmp_total}
use Rattle.std.specs.FinMap.{nat_cmp-IsAntisymmetric}
use Rattle.std.specs.List.{IsDistinct, list_any}
use Rattle.std.proofs.lemmas.Bool.{eqb-true, eq-eqb}
use Rattle.std.proofs.lemmas.List.Folds.{Any-from_list_any, list_any-from_Any}
use Rattle.std.proofs.lemmas.Map.Keys.{IsDistinct-from_sorted}
use Rattle.std.proofs.lemmas.Map.Steps.{length-le_from_distinct_below}
use Rattle.std.proofs.Math.Dec.{eqb}
use Rattle.tup_graph.proofs.Maps.{equal_of}
use Rattle.tup_closure.specs.Grows.{Grows}

module _ {K : Type 0} (cmp : K → K → Ordering) (decides : (x y : K) → Decides (eq_by_cmp cmp x y) (x ≡ y)) where
  pub listed : (keys : List K) (x : K) → list_any (eq_by_cmp cmp x) keys ≡ true → Contains keys x
  listed keys x e =
      let found = Any-from_list_any (eq_by_cmp cmp x) keys e in
      subst (Contains keys) (sym ((decides x found.1).0 found.4)) (found.0, found.2, found.3)

  pub in_list : (keys : List K) (x : K) → Contains keys x → list_any (eq_by_cmp cmp x) keys ≡ true
  in_list keys x h = list_any-from_Any (eq_by_cmp cmp x) keys (h.0, x, h.1, h.2, (decides x x).1 refl)

  pub contained : (s : BTreeSet K) (x : K) → contains cmp s x ≡ true → Contains s.keys x
  contained s x = listed s.keys x

  pub in_set : (s : BTreeSet K) (x : K) → Contains s.keys x → contains cmp s x ≡ true
  in_set s x = in_list s.keys x

  pub in_empty : (s : BTreeSet K) (x : K) → s.keys ≡ [] → contains cmp s x ≡ false
  in_empty s x e = ap (list_any (eq_by_cmp cmp x)) e

  pub inserted : (old new : BTreeSet K) (key : K) → Updates cmp old new key true → Grows (λ x. x ≡ key) (λ x. contains cmp old x ≡ true) (λ x. contains cmp new x ≡ true)
  inserted old new key up = record {
    only = λ x c. one x (eq_by_cmp cmp key x) refl (sym (up.0 x) ∙ c);
    all = λ x e. up.0 x ∙ ap (λ b. cond b true (contains cmp old x)) ((decides key x).1 (sym e));
    kept = λ x o. up.0 x ∙ either (eq_by_cmp cmp key x) (contains cmp old x) o;
  }
    where
      one : (x : K) (b : Bool) → eq_by_cmp cmp key x ≡ b → cond b true (contains cmp old x) ≡ true → (contains cmp old x ≡ true) ⊎ (x ≡ key)
      one x true e c = inr (sym ((decides key x).0 e))
      one x false e c = inl c

      either : (b c : Bool) → c ≡ true → cond b true c ≡ true
      either true c e = refl
      either false c e = e

-- numbers that no order tells apart are equal
pub number-decides : (x y : ℕ) → Decides (eq_by_cmp nat_cmp x y) (x ≡ y)
number-decides x y = (
  λ e. nat_cmp-IsAntisymmetric x y (equal_of (nat_cmp x y) e),
  λ e. subst (λ z. eq_by_cmp nat_cmp x z ≡ true) e ((eq_by_cmp_equiv nat_cmp_total).refl x),
)

same_test : (x y : ℕ) → eqb x y ≡ eq_by_cmp nat_cmp x y
same_test x y = both (eqb x y) (eq_by_cmp nat_cmp x y) (λ e. (number-decides x y).1 (eqb-true x y e)) (λ e. eq-eqb x y ((number-decides x y).0 e))
  where
    both : (a b : Bool) → (a ≡ true → b ≡ true) → (b ≡ true → a ≡ true) → a ≡ b
    both true b to from = sym (to refl)
    both false true to from = from refl
    both false false to from = refl

same_tests : eqb ≡ eq_by_cmp nat_cmp
same_tests = λ i x y. same_test x y i

-- a set of numbers below a bound has no more members
pub few_below : (s : BTreeSet ℕ) (n : ℕ) → IsOrdered nat_cmp s → ((x : ℕ) → contains nat_cmp s x ≡ true → x < n) → length s.keys ≤ n
few_below s n up below =
    length-le_from_distinct_below s.keys n (subst (λ (e : ℕ → ℕ → Bool). IsDistinct e s.keys) (sym same_tests) (IsDistinct-from_sorted nat_cmp s.keys up))
    (λ q e. below q (subst (λ (t : ℕ → ℕ → Bool). list_any (t q) s.keys ≡ true) same_tests e))
