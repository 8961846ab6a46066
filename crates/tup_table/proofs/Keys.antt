-- What stands under a key after a change, and the order of keys.
use Rattle.std.proofs.Common.{◌≡◌, ◌≢◌, ℕ, ◌+◌, true, false, cond, length, List, [], ◌∷◌, Some, None, refl, sym, ap, subst, ◌∙◌}
use Rattle.std.proofs.lemmas.Cmp.{tied_itself, nat_list_cmp_total}
use Rattle.std.specs.BTreeMap.{insert_entry, is_at}
use Rattle.std.specs.FinMap.{IsAntisymmetric, slice_cmp-IsAntisymmetric, nat_cmp-IsAntisymmetric}
use Rattle.std.specs.List.{AllByRecursion}
use Rattle.std.specs.Map.{lookup, remove_entry}
use Rattle.std.specs.Ordering.{match_ordering, is_eq, ordering_reverse}
use Rattle.std.specs.declared.cmp.Ordering.TheVariants.{Less, Equal, Greater}
use Rattle.tup_path.specs.Order.{by_bytes}
use Rattle.tup_table.specs.Entries.{Standing, key_of, IsAscending, changed, committed, left_from, entries_of, entry_at}
use Rattle.tup_table.specs.Store.{commit}
use Rattle.tup_table.specs.declared.change.Change.{Change}
use Rattle.tup_table.specs.declared.change.Change.TheVariants.{Put, Delete}

pub antisymmetric : IsAntisymmetric by_bytes
antisymmetric = slice_cmp-IsAntisymmetric nat_cmp-IsAntisymmetric

-- ---- tests of keys
pub same_key : (k : List ℕ) → is_at (by_bytes k) k ≡ true
same_key k = ap is_eq (tied_itself nat_list_cmp_total k)

other_key : (q k : List ℕ) → q ≢ k → is_at (by_bytes q) k ≡ false
other_key q k differs =
    (elim (by_bytes q k) as (λ o. by_bytes q k ≡ o → is_eq o ≡ false) [
      | Less ↦ λ e. refl
      | Equal ↦ λ e. absurd (differs (antisymmetric q k e))
      | Greater ↦ λ e. refl
    ]) refl

-- ---- after a put
pub put_found : {X : Type 0} (es : List (List ℕ × X)) (k : List ℕ) (v : X) → lookup (is_at (by_bytes k)) (insert_entry by_bytes es k v) ≡ Some v
put_found [] k v = rw (same_key k) refl
put_found (e ∷ es) k v =
    (elim (by_bytes k e.0) as (λ o. by_bytes k e.0 ≡ o → lookup (is_at (by_bytes k)) (match_ordering o ((k, v) ∷ e ∷ es) ((e.0, v) ∷ es) (e ∷ insert_entry by_bytes es k v)) ≡ Some v) [
      | Less ↦ λ o. rw (same_key k) refl
      | Equal ↦ λ o. rw o refl
      | Greater ↦ λ o. rw o (put_found es k v)
    ]) refl

pub put_others : {X : Type 0} (es : List (List ℕ × X)) (k : List ℕ) (v : X) (q : List ℕ) → q ≢ k → lookup (is_at (by_bytes q)) (insert_entry by_bytes es k v) ≡ lookup (is_at (by_bytes q)) es
put_others [] k v q differs = rw (other_key q k differs) refl
put_others (e ∷ es) k v q differs =
    (elim (by_bytes k e.0) as (λ o. by_bytes k e.0 ≡ o → lookup (is_at (by_bytes q)) (match_ordering o ((k, v) ∷ e ∷ es) ((e.0, v) ∷ es) (e ∷ insert_entry by_bytes es k v)) ≡ lookup (is_at (by_bytes q)) (e ∷ es)) [
      | Less ↦ λ o. rw (other_key q k differs) refl
      | Equal ↦ λ o. (let off : is_at (by_bytes q) e.0 ≡ false = other_key q e.0 (λ same. differs (same ∙ sym (antisymmetric k e.0 o))) in rw off refl)
      | Greater ↦ λ o. ap (cond (is_at (by_bytes q) e.0) (Some e.1)) (put_others es k v q differs)
    ]) refl

-- ---- after a deletion
pub none_behind : (k first : List ℕ) (es : Standing) → k ≡ first → AllByRecursion (λ later. by_bytes first later.0 ≡ Less) es → entry_at es k ≡ None
none_behind k first [] same all = refl
none_behind k first (e ∷ es) same all =
    let before : by_bytes k e.0 ≡ Less = subst (λ (x : List ℕ). by_bytes x e.0 ≡ Less) (sym same) all.0 in
    rw before (none_behind k first es same all.1)

deleted_found : (es : Standing) (k : List ℕ) → IsAscending es → entry_at (remove_entry (is_at (by_bytes k)) es) k ≡ None
deleted_found [] k up = refl
deleted_found (e ∷ es) k up =
    (elim (by_bytes k e.0) as (λ o. by_bytes k e.0 ≡ o → lookup (is_at (by_bytes k)) (cond (is_eq o) es (e ∷ remove_entry (is_at (by_bytes k)) es)) ≡ None) [
      | Less ↦ λ o. rw o (deleted_found es k up.1)
      | Equal ↦ λ o. none_behind k e.0 es (antisymmetric k e.0 o) up.0
      | Greater ↦ λ o. rw o (deleted_found es k up.1)
    ]) refl

deleted_others : (es : Standing) (k q : List ℕ) → q ≢ k → entry_at (remove_entry (is_at (by_bytes k)) es) q ≡ entry_at es q
deleted_others [] k q differs = refl
deleted_others (e ∷ es) k q differs =
    let on : lookup (is_at (by_bytes q)) (e ∷ remove_entry (is_at (by_bytes k)) es) ≡ entry_at (e ∷ es) q = ap (cond (is_at (by_bytes q) e.0) (Some e.1)) (deleted_others es k q differs) in
    (elim (by_bytes k e.0) as (λ o. by_bytes k e.0 ≡ o → lookup (is_at (by_bytes q)) (cond (is_eq o) es (e ∷ remove_entry (is_at (by_bytes k)) es)) ≡ entry_at (e ∷ es) q) [
      | Less ↦ λ o. on
      | Equal ↦ λ o. (let off : is_at (by_bytes q) e.0 ≡ false = other_key q e.0 (λ same. differs (same ∙ sym (antisymmetric k e.0 o))) in rw off refl)
      | Greater ↦ λ o. on
    ]) refl

-- ---- the order of keys
module _ (P : List ℕ → Type 0) where
  abbrev OfKey : {X : Type 0} → List ℕ × X → Type 0
  OfKey e = P e.0

  all_put : {X : Type 0} (es : List (List ℕ × X)) (k : List ℕ) (v : X) → P k → AllByRecursion OfKey es → AllByRecursion OfKey (insert_entry by_bytes es k v)
  all_put [] k v one all = (one, tt)
  all_put (e ∷ es) k v one all =
      elim (by_bytes k e.0) as (λ o. AllByRecursion OfKey (match_ordering o ((k, v) ∷ e ∷ es) ((e.0, v) ∷ es) (e ∷ insert_entry by_bytes es k v))) [
        | Less ↦ (one, all)
        | Equal ↦ (all.0, all.1)
        | Greater ↦ (all.0, all_put es k v one all.1)
      ]

  all_deleted : (es : Standing) (k : List ℕ) → AllByRecursion OfKey es → AllByRecursion OfKey (remove_entry (is_at (by_bytes k)) es)
  all_deleted [] k all = tt
  all_deleted (e ∷ es) k all =
      elim (is_at (by_bytes k) e.0) as (λ t. AllByRecursion OfKey (cond t es (e ∷ remove_entry (is_at (by_bytes k)) es))) [
        | true ↦ all.1
        | false ↦ (all.0, all_deleted es k all.1)
      ]

pub all_after : {X : Type 0} (k first : List ℕ) (es : List (List ℕ × X)) → by_bytes k first ≡ Less → AllByRecursion (λ later. by_bytes first later.0 ≡ Less) es → AllByRecursion (λ later. by_bytes k later.0 ≡ Less) es
all_after k first [] less all = tt
all_after k first (e ∷ es) less all = (nat_list_cmp_total.trans k first e.0 less all.0, all_after k first es less all.1)

pub put_ascending : {X : Type 0} (es : List (List ℕ × X)) (k : List ℕ) (v : X) → IsAscending es → IsAscending (insert_entry by_bytes es k v)
put_ascending [] k v up = (tt, tt)
put_ascending (e ∷ es) k v up =
    (elim (by_bytes k e.0) as (λ o. by_bytes k e.0 ≡ o → IsAscending (match_ordering o ((k, v) ∷ e ∷ es) ((e.0, v) ∷ es) (e ∷ insert_entry by_bytes es k v))) [
      | Less ↦ λ o. ((o, all_after k e.0 es o up.0), up)
      | Equal ↦ λ o. (up.0, up.1)
      | Greater ↦ λ o. (all_put (λ later. by_bytes e.0 later ≡ Less) es k v (nat_list_cmp_total.antisymm e.0 k ∙ ap ordering_reverse o) up.0, put_ascending es k v up.1)
    ]) refl

deleted_ascending : (es : Standing) (k : List ℕ) → IsAscending es → IsAscending (remove_entry (is_at (by_bytes k)) es)
deleted_ascending [] k up = tt
deleted_ascending (e ∷ es) k up =
    elim (is_at (by_bytes k) e.0) as (λ t. IsAscending (cond t es (e ∷ remove_entry (is_at (by_bytes k)) es))) [
      | true ↦ up.1
      | false ↦ (all_deleted (λ later. by_bytes e.0 later ≡ Less) es k up.0, deleted_ascending es k up.1)
    ]

pub changed_ascending : (origin : ℕ) (es : Standing) (change : Change) → IsAscending es → IsAscending (changed origin es change)
changed_ascending origin es (Put k v) up = put_ascending es k (record { value = v; origin = origin }) up
changed_ascending origin es (Delete k) up = deleted_ascending es k up

pub committed_ascending : (origin : ℕ) (es : Standing) (changes : List Change) → IsAscending es → IsAscending (committed origin es changes)
committed_ascending origin es [] up = up
committed_ascending origin es (c ∷ changes) up = committed_ascending origin (changed origin es c) changes (changed_ascending origin es c up)

left_ascending : (gate : ℕ) (es : Standing) (commits : List (List Change)) → IsAscending es → IsAscending (left_from gate es commits)
left_ascending gate es [] up = up
left_ascending gate es (c ∷ commits) up = left_ascending (gate + (1 + length (commit c))) (committed gate es c) commits (committed_ascending gate es c up)

-- ---- the law
pub after_put : (es : Standing) (origin : ℕ) (k v : List ℕ) → entry_at (changed origin es (Put k v)) k ≡ Some (record { value = v; origin = origin })
after_put es origin k v = put_found es k (record { value = v; origin = origin })

pub after_delete : (es : Standing) (origin : ℕ) (k : List ℕ) → IsAscending es → entry_at (changed origin es (Delete k)) k ≡ None
after_delete es origin k up = deleted_found es k up

pub after_others : (es : Standing) (origin : ℕ) (change : Change) (q : List ℕ) → q ≢ key_of change → entry_at (changed origin es change) q ≡ entry_at es q
after_others es origin (Put k v) q differs = put_others es k (record { value = v; origin = origin }) q differs
after_others es origin (Delete k) q differs = deleted_others es k q differs

pub commits_ascending : (commits : List (List Change)) → IsAscending (entries_of commits)
commits_ascending commits = left_ascending 17 [] commits tt
