-- Finite maps under two changes: at two keys they may come in either order, at one key the later one stands.
use Rattle.std.proofs.Common.{◌≡◌, ◌≢◌, Bool, true, false, cond, Option, None, Some, refl, sym, ap, ◌∙◌}
use Rattle.std.specs.declared.cmp.Ordering.{Ordering}
use Rattle.std.specs.declared.cmp.Ordering.TheVariants.{Less, Equal, Greater}
use Rattle.std.specs.Ordering.{eq_by_cmp, is_eq}
use Rattle.std.specs.Cmp.{IsTotalOrder}
use Rattle.std.specs.FinMap.{FinMap, IsAntisymmetric, slice_cmp-IsAntisymmetric, nat_cmp-IsAntisymmetric, get, insert, remove, empty, get-insert, get-remove, get-empty, same_map}
use Rattle.tup_path.specs.Order.{by_bytes}

-- only equal texts tie
pub by_bytes-antisymmetric : IsAntisymmetric by_bytes
by_bytes-antisymmetric = slice_cmp-IsAntisymmetric nat_cmp-IsAntisymmetric

pub equal_of : (r : Ordering) → is_eq r ≡ true → r ≡ Equal
equal_of Less e = cc
equal_of Equal e = refl
equal_of Greater e = cc

pub not_true : (b : Bool) → (b ≡ true → ⊥) → b ≡ false
not_true true never = absurd (never refl)
not_true false never = refl

either_way : {X : Type 0} (a b : Bool) (x y z : X) → (a ≡ true → b ≡ false) → cond b y (cond a x z) ≡ cond a x (cond b y z)
either_way true b x y z apart = rw (apart refl) refl
either_way false b x y z apart = refl

later_stands : {X : Type 0} (a : Bool) (x y z : X) → cond a y (cond a x z) ≡ cond a y z
later_stands true x y z = refl
later_stands false x y z = refl

pub nothing_either : {X : Type 0} (a : Bool) → ◌≡◌ {A = Option X} (cond a None None) None
nothing_either true = refl
nothing_either false = refl

apart : {K : Type 0} {R : K → K → Ordering} → IsAntisymmetric R → (k l q : K) → k ≢ l → eq_by_cmp R q k ≡ true → eq_by_cmp R q l ≡ false
apart {R = R} exact k l q differ one =
    not_true (eq_by_cmp R q l) (λ other. differ (sym (exact q k (equal_of (R q k) one)) ∙ exact q l (equal_of (R q l) other)))

module _ {K X : Type 0} {R : K → K → Ordering} (o : IsTotalOrder R) (exact : IsAntisymmetric R) where
  pub insert-insert : (m : FinMap R X) (k l : K) (v w : X) → k ≢ l → insert (insert m k v) l w ≡ insert (insert m l w) k v
  insert-insert m k l v w differ = same_map o exact _ _ (λ q.
      get-insert o (insert m k v) l w q ∙ ap (cond (eq_by_cmp R q l) (Some w)) (get-insert o m k v q)
      ∙ either_way (eq_by_cmp R q k) (eq_by_cmp R q l) (Some v) (Some w) (get m q) (apart exact k l q differ)
      ∙ sym (get-insert o (insert m l w) k v q ∙ ap (cond (eq_by_cmp R q k) (Some v)) (get-insert o m l w q)))

  pub insert-over : (m : FinMap R X) (k : K) (v w : X) → insert (insert m k v) k w ≡ insert m k w
  insert-over m k v w = same_map o exact _ _ (λ q.
      get-insert o (insert m k v) k w q ∙ ap (cond (eq_by_cmp R q k) (Some w)) (get-insert o m k v q)
      ∙ later_stands (eq_by_cmp R q k) (Some v) (Some w) (get m q) ∙ sym (get-insert o m k w q))

  pub remove-insert : (m : FinMap R X) (k l : K) (v : X) → k ≢ l → remove (insert m k v) l ≡ insert (remove m l) k v
  remove-insert m k l v differ = same_map o exact _ _ (λ q.
      get-remove o (insert m k v) l q ∙ ap (cond (eq_by_cmp R q l) None) (get-insert o m k v q)
      ∙ either_way (eq_by_cmp R q k) (eq_by_cmp R q l) (Some v) None (get m q) (apart exact k l q differ)
      ∙ sym (get-insert o (remove m l) k v q ∙ ap (cond (eq_by_cmp R q k) (Some v)) (get-remove o m l q)))

  pub remove-over : (m : FinMap R X) (k : K) (v : X) → remove (insert m k v) k ≡ remove m k
  remove-over m k v = same_map o exact _ _ (λ q.
      get-remove o (insert m k v) k q ∙ ap (cond (eq_by_cmp R q k) None) (get-insert o m k v q)
      ∙ later_stands (eq_by_cmp R q k) (Some v) None (get m q) ∙ sym (get-remove o m k q))

  pub remove-empty : (k : K) → remove (empty {X = X} {R = R}) k ≡ empty
  remove-empty k = same_map o exact _ _ (λ q.
      get-remove o empty k q ∙ ap (cond (eq_by_cmp R q k) None) (get-empty R q) ∙ nothing_either (eq_by_cmp R q k) ∙ sym (get-empty R q))

  absent_there : (m : FinMap R X) (k q : K) (b : Bool) → eq_by_cmp R q k ≡ b → get m k ≡ None → cond b None (get m q) ≡ get m q
  absent_there m k q true is none = sym (ap (get m) (exact q k (equal_of (R q k) is)) ∙ none)
  absent_there m k q false is none = refl

  pub remove-absent : (m : FinMap R X) (k : K) → get m k ≡ None → remove m k ≡ m
  remove-absent m k none = same_map o exact _ _ (λ q. get-remove o m k q ∙ absent_there m k q (eq_by_cmp R q k) refl none)
