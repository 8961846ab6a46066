-- A file that is looked for among files in order.
use Rattle.std.proofs.Common.{◌≡◌, ◌⊎◌, inl, inr, ℕ, zero, suc, ◌<◌, ◌≤◌, true, cond, List, [], ◌∷◌, length, get_or, Some, None, refl, sym, ap, ◌∙◌, arith}
use Rattle.std.specs.Cmp.{tied_back, alike_right}
use Rattle.std.specs.FinMap as finite
use Rattle.std.specs.FinMap.Entries.{below_all}
use Rattle.std.specs.List.Sorted.{IsNonDecreasingBy, IsPartitionPoint}
use Rattle.std.specs.Ordering.{is_lt, is_eq, ordering_index, ordering_reverse}
use Rattle.std.specs.declared.cmp.Ordering.{Ordering}
use Rattle.std.specs.declared.cmp.Ordering.TheVariants.{Less, Equal, Greater}
use Rattle.std.proofs.lemmas.Bool.{and_parts, cases_lt}
use Rattle.tup_path.specs.Name.{Names, Content}
use Rattle.tup_path.specs.Order.{by_names, by_names-total}

less : (o : Ordering) → is_lt o ≡ true → o ≡ Less
less Less e = refl
less Equal e = cc
less Greater e = cc

-- ---- files in order

below_at : (path : Names) (files : List (Names × Content)) (i : ℕ) (d : Names × Content) → below_all by_names path files ≡ true → i < length files → by_names path (get_or files i d).0 ≡ Less
below_at path [] i d below within = absurd (omega arith)
below_at path (e ∷ files) zero d below within = less (by_names path e.0) (and_parts (is_lt (by_names path e.0)) (below_all by_names path files) below).0
below_at path (e ∷ files) (suc i) d below within = below_at path files i d (and_parts (is_lt (by_names path e.0)) (below_all by_names path files) below).1 (omega arith)

sorted_at : (files : List (Names × Content)) (i j : ℕ) (d : Names × Content) → finite.is_sorted by_names files ≡ true → i < j → j < length files → by_names (get_or files i d).0 (get_or files j d).0 ≡ Less
sorted_at [] i j d up before within = absurd (omega arith)
sorted_at (e ∷ files) i zero d up before within = absurd (omega arith)
sorted_at (e ∷ files) zero (suc j) d up before within = below_at e.0 files j d (and_parts (below_all by_names e.0 files) (finite.is_sorted by_names files) up).0 (omega arith)
sorted_at (e ∷ files) (suc i) (suc j) d up before within = sorted_at files i j d (and_parts (below_all by_names e.0 files) (finite.is_sorted by_names files) up).1 (omega arith) (omega arith)

at_most_two : (o : Ordering) → ordering_index o ≤ 2
at_most_two Less = omega arith
at_most_two Equal = omega arith
at_most_two Greater = omega arith

rises : (one other path : Names) → by_names one other ≡ Less → ordering_index (by_names one path) ≤ ordering_index (by_names other path)
rises one other path up = by (by_names other path) refl
  where
    by : (o : Ordering) → by_names other path ≡ o → ordering_index (by_names one path) ≤ ordering_index o
    by Less e = let is : ordering_index (by_names one path) ≡ 0 = ap ordering_index (by_names-total.trans one other path up e) in omega (arith, is)
    by Equal e = let is : ordering_index (by_names one path) ≡ 0 = ap ordering_index (sym (alike_right by_names-total other path one e) ∙ up) in omega (arith, is)
    by Greater e = at_most_two (by_names one path)

pub rising : (path : Names) (files : List (Names × Content)) → finite.is_sorted by_names files ≡ true → IsNonDecreasingBy (λ (file : Names × Content). ordering_index (by_names file.0 path)) files
rising path files up i j d le within = elim (cases_lt i j) [
  | inl before ↦ rises (get_or files i d).0 (get_or files j d).0 path (sorted_at files i j d up before within)
  | inr not_before ↦
      let same : i ≡ j = omega arith in
      let is : ordering_index (by_names (get_or files i d).0 path) ≡ ordering_index (by_names (get_or files j d).0 path) = ap (λ k. ordering_index (by_names (get_or files k d).0 path)) same in
      omega (arith, is)
]

-- ---- what is found

pub found_at : (files : List (Names × Content)) (path : Names) (i : ℕ) (d : Names × Content) → finite.is_sorted by_names files ≡ true → i < length files → by_names (get_or files i d).0 path ≡ Equal
    → finite.find by_names path files ≡ Some (get_or files i d).1
found_at [] path i d up within tie = absurd (omega arith)
found_at (e ∷ files) path zero d up within tie = ap (λ o. cond (is_eq o) (Some e.1) (finite.find by_names path files)) (tied_back by_names-total e.0 path tie)
found_at (e ∷ files) path (suc i) d up within tie =
    let parts = and_parts (below_all by_names e.0 files) (finite.is_sorted by_names files) up in
    let before : by_names e.0 path ≡ Less = sym (alike_right by_names-total (get_or files i d).0 path e.0 tie) ∙ below_at e.0 files i d parts.0 (omega arith) in
    ap (λ o. cond (is_eq o) (Some e.1) (finite.find by_names path files)) (by_names-total.antisymm path e.0 ∙ ap ordering_reverse before)
    ∙ found_at files path i d parts.1 (omega arith) tie

absent : (files : List (Names × Content)) (path : Names) → ((i : ℕ) (d : Names × Content) → i < length files → (by_names (get_or files i d).0 path ≡ Less) ⊎ (by_names (get_or files i d).0 path ≡ Greater))
    → finite.find by_names path files ≡ None
absent [] path apart = refl
absent (e ∷ files) path apart =
    ap (λ b. cond b (Some e.1) (finite.find by_names path files)) (elim (apart 0 e (omega arith)) [
      | inl before ↦ ap is_eq (by_names-total.antisymm path e.0 ∙ ap ordering_reverse before)
      | inr behind ↦ ap is_eq (by_names-total.antisymm path e.0 ∙ ap ordering_reverse behind)
    ])
    ∙ absent files path (λ i d within. apart (suc i) d (omega arith))

pub not_found : (files : List (Names × Content)) (path : Names) (i : ℕ) → IsPartitionPoint (λ (file : Names × Content). by_names file.0 path ≡ Less) (λ (file : Names × Content). by_names file.0 path ≡ Greater) files i
    → finite.find by_names path files ≡ None
not_found files path i parted = absent files path (λ k d within. elim (cases_lt k i) [
  | inl before ↦ inl (parted.0 k d (omega arith) before)
  | inr behind ↦ inr (parted.1 k d behind within)
])
