-- Names in order, each once: what is among them.
use Rattle.std.proofs.Common.{◌≡◌, ◌⊎◌, inl, inr, List, [], ◌∷◌, ◌++◌, Option, Some, None, ℕ, Bool, true, false, cond, refl, sym, ap, ◌∙◌, subst, arith}
use Rattle.std.specs.BTreeSet.{insert_key}
use Rattle.std.specs.Cmp.{IsTotalOrder}
use Rattle.std.specs.FinMap.{IsAntisymmetric}
use Rattle.std.specs.List.{AllByRecursion, Contains, cons_option, fold}
use Rattle.std.specs.List.Sorted.{IsStrictlySortedBy}
use Rattle.std.specs.Ordering.{match_ordering, ordering_reverse}
use Rattle.std.specs.declared.cmp.Ordering.{Ordering}
use Rattle.std.specs.declared.cmp.Ordering.TheVariants.{Less, Equal, Greater}
use Rattle.std.proofs.lemmas.Map.Keys.{sorted_head, sorted_tail}
use Rattle.tup_path.specs.Name.{Names}
use Rattle.tup_path.specs.Order.{same_path}
use Rattle.tup_path.proofs.Same.{same_path-decides}
use Rattle.tup_rule_line.specs.Folder.{name_in}
use Rattle.tup_rule_line.specs.Glob.{names_among}
use Rattle.tup_readings.proofs.Below.{last_item, name_in_named}
use Rattle.tup_readers.proofs.Entries.{in_front, behind_front, front_or_behind, none_in}

-- ---- keys that are put in their places

module _ {K : Type 0} (R : K → K → Ordering) (o : IsTotalOrder R) (exact : IsAntisymmetric R) where
  sorted_none : IsStrictlySortedBy R []
  unfolding IsStrictlySortedBy
  sorted_none = tt

  sorted_cons : (x : K) (xs : List K) → AllByRecursion (λ y. R x y ≡ Less) xs → IsStrictlySortedBy R xs → IsStrictlySortedBy R (x ∷ xs)
  unfolding IsStrictlySortedBy
  sorted_cons x xs below up = (below, up)

  further_below : (k x : K) (xs : List K) → R k x ≡ Less → AllByRecursion (λ y. R x y ≡ Less) xs → AllByRecursion (λ y. R k y ≡ Less) xs
  further_below k x [] less all = tt
  further_below k x (y ∷ xs) less all = (o.trans k x y less all.0, further_below k x xs less all.1)

  all_put : (P : K → Type 0) (xs : List K) (k : K) → P k → AllByRecursion P xs → AllByRecursion P (insert_key R xs k)
  all_put P [] k p all = (p, tt)
  all_put P (x ∷ xs) k p all = by (R k x) (all_put P xs k p all.1)
    where
      by : (r : Ordering) → AllByRecursion P (insert_key R xs k) → AllByRecursion P (match_ordering r (k ∷ x ∷ xs) (x ∷ xs) (x ∷ insert_key R xs k))
      by Less later = (p, all)
      by Equal later = all
      by Greater later = (all.0, later)

  sorted_put : (xs : List K) (k : K) → IsStrictlySortedBy R xs → IsStrictlySortedBy R (insert_key R xs k)
  sorted_put [] k up = sorted_cons k [] tt sorted_none
  sorted_put (x ∷ xs) k up = by (R k x) refl (sorted_put xs k (sorted_tail R x xs up))
    where
      by : (r : Ordering) → R k x ≡ r → IsStrictlySortedBy R (insert_key R xs k) → IsStrictlySortedBy R (match_ordering r (k ∷ x ∷ xs) (x ∷ xs) (x ∷ insert_key R xs k))
      by Less e later = sorted_cons k (x ∷ xs) (e, further_below k x xs e (sorted_head R x xs up)) up
      by Equal e later = up
      by Greater e later = sorted_cons x (insert_key R xs k) (all_put (λ y. R x y ≡ Less) xs k (o.antisymm x k ∙ ap ordering_reverse e) (sorted_head R x xs up)) later

  put_only : (xs : List K) (k y : K) → Contains (insert_key R xs k) y → (y ≡ k) ⊎ Contains xs y
  put_only [] k y h = elim (front_or_behind k y [] h) [ inl same ↦ inl (sym same) | inr none ↦ inr none ]
  put_only (x ∷ xs) k y h = by (R k x) h (put_only xs k y)
    where
      by : (r : Ordering) → Contains (match_ordering r (k ∷ x ∷ xs) (x ∷ xs) (x ∷ insert_key R xs k)) y → (Contains (insert_key R xs k) y → (y ≡ k) ⊎ Contains xs y) → (y ≡ k) ⊎ Contains (x ∷ xs) y
      by Less h later = elim (front_or_behind k y (x ∷ xs) h) [ inl same ↦ inl (sym same) | inr there ↦ inr there ]
      by Equal h later = inr h
      by Greater h later = elim (front_or_behind x y (insert_key R xs k) h) [
        | inl same ↦ inr (0, omega arith, same)
        | inr there ↦ elim (later there) [ inl new ↦ inl new | inr old ↦ inr (behind_front x y xs old) ]
      ]

  put_there : (xs : List K) (k : K) → Contains (insert_key R xs k) k
  put_there [] k = in_front k []
  put_there (x ∷ xs) k = by (R k x) refl (put_there xs k)
    where
      by : (r : Ordering) → R k x ≡ r → Contains (insert_key R xs k) k → Contains (match_ordering r (k ∷ x ∷ xs) (x ∷ xs) (x ∷ insert_key R xs k)) k
      by Less e later = in_front k (x ∷ xs)
      by Equal e later = (0, omega arith, sym (exact k x e))
      by Greater e later = behind_front x k (insert_key R xs k) later

  put_keeps : (xs : List K) (k y : K) → Contains xs y → Contains (insert_key R xs k) y
  put_keeps [] k y h = absurd (none_in y h)
  put_keeps (x ∷ xs) k y h = by (R k x) (put_keeps xs k y)
    where
      by : (r : Ordering) → (Contains xs y → Contains (insert_key R xs k) y) → Contains (match_ordering r (k ∷ x ∷ xs) (x ∷ xs) (x ∷ insert_key R xs k)) y
      by Less later = behind_front k y (x ∷ xs) h
      by Equal later = h
      by Greater later = elim (front_or_behind x y xs h) [
        | inl same ↦ (0, omega arith, same)
        | inr there ↦ behind_front x y (insert_key R xs k) (later there)
      ]

  pub sorted_all : (some names : List K) → IsStrictlySortedBy R some → IsStrictlySortedBy R (fold (insert_key R) some names)
  sorted_all some [] up = up
  sorted_all some (name ∷ names) up = sorted_all (insert_key R some name) names (sorted_put some name up)

  pub all_only : (some names : List K) (y : K) → Contains (fold (insert_key R) some names) y → Contains some y ⊎ Contains names y
  all_only some [] y h = inl h
  all_only some (name ∷ names) y h = elim (all_only (insert_key R some name) names y h) [
    | inl before ↦ elim (put_only some name y before) [ inl same ↦ inr (0, omega arith, sym same) | inr old ↦ inl old ]
    | inr later ↦ inr (behind_front name y names later)
  ]

  pub all_there : (some names : List K) (y : K) → Contains some y ⊎ Contains names y → Contains (fold (insert_key R) some names) y
  all_there some [] y (inl old) = old
  all_there some [] y (inr none) = absurd (none_in y none)
  all_there some (name ∷ names) y (inl old) = all_there (insert_key R some name) names y (inl (put_keeps some name y old))
  all_there some (name ∷ names) y (inr h) = elim (front_or_behind name y names h) [
    | inl same ↦ all_there (insert_key R some name) names y (inl (subst (Contains (insert_key R some name)) same (put_there some name)))
    | inr later ↦ all_there (insert_key R some name) names y (inr later)
  ]

  pub sorted_from_none : (names : List K) → IsStrictlySortedBy R (fold (insert_key R) [] names)
  sorted_from_none names = sorted_all [] names sorted_none

-- ---- names in a folder

-- the name of a path in a folder is its last
is_named : (folder path : Names) (name : List ℕ) → name_in folder path ≡ Some name → path ≡ folder ++ name ∷ []
is_named folder path name e = elim (last_item path) [
  | inl none ↦ absurd (nothing (sym (ap (name_in folder) none) ∙ e))
  | inr some ↦ by some.0 some.1 some.2 (same_path folder some.0) refl (sym (name_in_named folder some.0 some.1) ∙ sym (ap (name_in folder) some.2) ∙ e)
]
  where
    nothing : name_in folder [] ≡ Some name → ⊥
    nothing e = cc

    by : (front : Names) (last : List ℕ) → path ≡ front ++ last ∷ [] → (b : Bool) → same_path folder front ≡ b → cond b (Some last) None ≡ Some name → path ≡ folder ++ name ∷ []
    by front last is false apart e = cc
    by front last is true same e =
        let last_is : last ≡ name = cc in
        is ∙ ap (λ n. front ++ n ∷ []) last_is ∙ ap (λ f. f ++ name ∷ []) (sym ((same_path-decides folder front).0 same))

named_so : (folder : Names) (name : List ℕ) → name_in folder (folder ++ name ∷ []) ≡ Some name
named_so folder name = name_in_named folder folder name ∙ ap (λ b. cond b (Some name) None) ((same_path-decides folder folder).1 refl)

pub named_there : (folder : Names) (paths : List Names) (name : List ℕ) → Contains (names_among folder paths) name → Contains paths (folder ++ name ∷ [])
named_there folder [] name h = absurd (none_in name h)
named_there folder (path ∷ paths) name h = by (name_in folder path) refl h (named_there folder paths name)
  where
    by : (found : Option (List ℕ)) → name_in folder path ≡ found → Contains (cons_option found (names_among folder paths)) name → (Contains (names_among folder paths) name → Contains paths (folder ++ name ∷ []))
        → Contains (path ∷ paths) (folder ++ name ∷ [])
    by None e h more = behind_front path (folder ++ name ∷ []) paths (more h)
    by (Some one) e h more = elim (front_or_behind one name (names_among folder paths) h) [
      | inl same ↦ (0, omega arith, is_named folder path name (e ∙ ap (λ n. Some n) same))
      | inr later ↦ behind_front path (folder ++ name ∷ []) paths (more later)
    ]

pub there_named : (folder : Names) (paths : List Names) (name : List ℕ) → Contains paths (folder ++ name ∷ []) → Contains (names_among folder paths) name
there_named folder [] name h = absurd (none_in (folder ++ name ∷ []) h)
there_named folder (path ∷ paths) name h = elim (front_or_behind path (folder ++ name ∷ []) paths h) [
  | inl same ↦ subst (λ (found : Option (List ℕ)). Contains (cons_option found (names_among folder paths)) name) (sym (ap (name_in folder) same ∙ named_so folder name)) (in_front name (names_among folder paths))
  | inr later ↦ on (name_in folder path) (there_named folder paths name later)
]
  where
    on : (found : Option (List ℕ)) → Contains (names_among folder paths) name → Contains (cons_option found (names_among folder paths)) name
    on None there = there
    on (Some one) there = behind_front one name (names_among folder paths) there
