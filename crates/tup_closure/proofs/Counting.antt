-- Sums over ascending numbers.
use Rattle.std.specs.Prelude.{◌≡◌, ◌⊎◌, ℕ, suc, ◌+◌, ◌<◌, ◌≤◌, ◌||◌, false, List, [], ◌∷◌, Contains, length, sum_by}
use Rattle.std.proofs.Common.{refl, sym, ap, subst, inl, inr, arith}
use Rattle.std.specs.BTreeSet.{insert_key}
use Rattle.std.specs.List.{list_any}
use Rattle.std.specs.List.Sorted.{IsStrictlySortedBy}
use Rattle.std.specs.Ordering.{nat_cmp, eq_by_cmp, is_eq, match_ordering}
use Rattle.std.specs.declared.cmp.Ordering.{Ordering}
use Rattle.std.specs.declared.cmp.Ordering.TheVariants.{Less, Equal, Greater}
use Rattle.std.proofs.lemmas.List.Sums.{sum_by-cons}
use Rattle.std.proofs.lemmas.Map.Keys.{below_from_sorted, sorted_tail}
use Rattle.std.proofs.lemmas.Map.Made.{Contains-tail}
use Rattle.tup_readers.proofs.Entries.{in_front, behind_front, front_or_behind, none_in}
use Rattle.tup_closure.specs.Steps.{IsListOf}

-- what stands behind the first of ascending numbers is greater
greater : (x : ℕ) (xs : List ℕ) (n : ℕ) → IsStrictlySortedBy nat_cmp (x ∷ xs) → Contains xs n → x < n
greater x xs n up (k, less, is) = subst (λ (m : ℕ). x < m) is (below_from_sorted (x ∷ xs) 0 (suc k) n up (omega arith) (omega arith))

not_less : {x n : ℕ} → x < n → x ≡ n → ⊥
not_less less same = omega arith

-- ascending numbers that are all among others weigh no more than these
pub sum_within : (weight : ℕ → ℕ) (ys xs : List ℕ) → IsStrictlySortedBy nat_cmp ys → IsStrictlySortedBy nat_cmp xs → ((n : ℕ) → Contains xs n → Contains ys n) → sum_by weight xs ≤ sum_by weight ys
sum_within weight [] [] up_y up_x among = omega arith
sum_within weight [] (x ∷ xs) up_y up_x among = absurd (none_in x (among x (in_front x xs)))
sum_within weight (y ∷ ys) [] up_y up_x among = omega arith
sum_within weight (y ∷ ys) (x ∷ xs) up_y up_x among = elim (front_or_behind y x ys (among x (in_front x xs))) [
  | inl same ↦
      let rest : sum_by weight xs ≤ sum_by weight ys = sum_within weight ys xs (sorted_tail nat_cmp y ys up_y) (sorted_tail nat_cmp x xs up_x)
      (λ n h. Contains-tail y ys n (not_less (subst (λ (m : ℕ). m < n) (sym same) (greater x xs n up_x h))) (among n (behind_front x n xs h))) in
      let heads : weight y ≡ weight x = ap weight same in
      let ones : sum_by weight (x ∷ xs) ≡ weight x + sum_by weight xs = sum_by-cons weight x xs in
      let others : sum_by weight (y ∷ ys) ≡ weight y + sum_by weight ys = sum_by-cons weight y ys in
      omega arith
  | inr later ↦
      let above : y < x = greater y ys x up_y later in
      let rest : sum_by weight (x ∷ xs) ≤ sum_by weight ys = sum_within weight ys (x ∷ xs) (sorted_tail nat_cmp y ys up_y) up_x
      (λ n h. Contains-tail y ys n (not_less (over n above (front_or_behind x n xs h))) (among n h)) in
      let others : sum_by weight (y ∷ ys) ≡ weight y + sum_by weight ys = sum_by-cons weight y ys in
      omega arith
]
  where
    over : (n : ℕ) → y < x → (x ≡ n) ⊎ Contains xs n → y < n
    over n above (inl same) = subst (λ (m : ℕ). y < m) same above
    over n above (inr later) = let more : x < n = greater x xs n up_x later in omega arith

-- how many there are is what they weigh if each weighs one
pub counted : (xs : List ℕ) → sum_by (λ _. 1) xs ≡ length xs
counted [] = refl
counted (x ∷ xs) = let rest : sum_by (λ _. 1) xs ≡ length xs = counted xs in let more : sum_by (λ _. 1) (x ∷ xs) ≡ 1 + sum_by (λ _. 1) xs = sum_by-cons (λ _. 1) x xs in omega arith

module _ {These Those : ℕ → Type 0} (xs ys : List ℕ) (one : IsListOf These xs) (other : IsListOf Those ys) (within : (n : ℕ) → These n → Those n) where
  among : (n : ℕ) → Contains xs n → Contains ys n
  among n h = (other.members n).1 (within n ((one.members n).0 h))

  pub weighs_no_more : (weight : ℕ → ℕ) → sum_by weight xs ≤ sum_by weight ys
  weighs_no_more weight = sum_within weight ys xs other.ascending one.ascending among

  pub no_longer : length xs ≤ length ys
  no_longer =
      let less = weighs_no_more (λ _. 1) in
      let ones = counted xs in
      let others = counted ys in
      omega arith

-- two lists of the same numbers are as long
pub as_long : {These : ℕ → Type 0} (xs ys : List ℕ) → IsListOf These xs → IsListOf These ys → length xs ≡ length ys
as_long xs ys one other =
    let less = no_longer xs ys one other (λ n t. t) in
    let more = no_longer ys xs other one (λ n t. t) in
    omega arith

-- a list of these is one of those, where these are those
pub listed_as : {These Those : ℕ → Type 0} (xs : List ℕ) → ((n : ℕ) → These n → Those n) → ((n : ℕ) → Those n → These n) → IsListOf These xs → IsListOf Those xs
listed_as xs to from list = record {
  ascending = list.ascending;
  members = λ n. (λ h. to n ((list.members n).0 h), λ t. (list.members n).1 (from n t));
}

-- a number more in a set weighs what it weighs
pub sum_inserted : (weight : ℕ → ℕ) (ks : List ℕ) (k : ℕ) → list_any (eq_by_cmp nat_cmp k) ks ≡ false → sum_by weight (insert_key nat_cmp ks k) ≡ weight k + sum_by weight ks
sum_inserted weight [] k new = sum_by-cons weight k []
sum_inserted weight (x ∷ xs) k new = by (nat_cmp k x) new (sum_inserted weight xs k)
  where
    by : (r : Ordering) → (is_eq r || list_any (eq_by_cmp nat_cmp k) xs) ≡ false
        → (list_any (eq_by_cmp nat_cmp k) xs ≡ false → sum_by weight (insert_key nat_cmp xs k) ≡ weight k + sum_by weight xs)
        → sum_by weight (match_ordering r (k ∷ x ∷ xs) (x ∷ xs) (x ∷ insert_key nat_cmp xs k)) ≡ weight k + sum_by weight (x ∷ xs)
    by Less new rest = sum_by-cons weight k (x ∷ xs)
    by Equal new rest = cc
    by Greater new rest =
        let later = rest new in
        let ones : sum_by weight (x ∷ insert_key nat_cmp xs k) ≡ weight x + sum_by weight (insert_key nat_cmp xs k) = sum_by-cons weight x (insert_key nat_cmp xs k) in
        let others : sum_by weight (x ∷ xs) ≡ weight x + sum_by weight xs = sum_by-cons weight x xs in
        omega arith
