-- Of paths in order, those below a path stand right behind it.
use Rattle.std.proofs.Common.{◌≡◌, ℕ, ◌<◌, ◌≤◌, Bool, true, false, T, List, [], ◌∷◌, ◌++◌, map, length, get_or, refl, sym, ap, ◌∙◌, subst, inl, inr, arith}
use Rattle.std.specs.Prelude.{Contains}
use Rattle.std.specs.FinMap as finite
use Rattle.std.specs.FinMap.{slice_cmp-IsAntisymmetric, nat_cmp-IsAntisymmetric}
use Rattle.std.specs.FinMap.Entries.{below_all}
use Rattle.std.specs.Borrow.{Bor}
use Rattle.std.specs.Cmp.{tied_itself}
use Rattle.std.specs.Cmp.Lexicographic.{nat_list_cmp_total}
use Rattle.std.specs.List.{AllWithin, AllByRecursion}
use Rattle.std.specs.List.Sorted.{IsPartitionPoint, IsPartitionedBy, IsStrictlySortedBy}
use Rattle.std.specs.Map.Iter.{deref}
use Rattle.std.specs.Ordering.{is_gt, is_le, is_lt, ordering_reverse}
use Rattle.std.specs.declared.cmp.Ordering.{Ordering}
use Rattle.std.specs.declared.cmp.Ordering.TheVariants.{Less, Equal, Greater}
use Rattle.std.proofs.lemmas.Bool.{and_parts, cases_lt, false≢true}
use Rattle.std.proofs.lemmas.List.{append-nil, get_or-map, get_or_default, length-map}
use Rattle.std.proofs.lemmas.List.Elements.{Contains-get_or}
use Rattle.std.proofs.lemmas.Map.Keys.{Less-from_sorted}
use Rattle.tup_path.specs.Name.{Names}
use Rattle.tup_path.specs.Order.{by_names, by_names-antisymmetric, by_names-total}
use Rattle.tup_path.specs.Tree.{IsBelow}
use Rattle.tup_site.proofs.Places.{goes_on, comes_before}
use Rattle.tup_apart.specs.Place.{IsOver}

-- what is below a path comes behind it
comes_behind : (path other : Names) → IsBelow path other → by_names path other ≡ Less
comes_behind path other below = subst (λ (q : Names). by_names path q ≡ Less) (sym below.2) (comes_before nat_list_cmp_total path below.0 below.1)

-- and what stands between the two is below it too
between : (path other next : Names) → IsBelow path other → by_names path next ≡ Less → is_gt (by_names next other) ≡ false → IsBelow path next
between path other next below behind up_to =
    further (goes_on nat_list_cmp_total (slice_cmp-IsAntisymmetric nat_cmp-IsAntisymmetric) path below.0 next (ap is_gt behind) (subst (λ (q : Names). is_gt (by_names next q) ≡ false) below.2 up_to))
  where
    further : (rest : Names) × (next ≡ path ++ rest) → IsBelow path next
    further ([], same) =
        let wrong : Equal ≡ Less = sym (tied_itself by_names-total path) ∙ subst (λ (q : Names). by_names path q ≡ Less) (same ∙ append-nil path) behind in
        cc
    further (name ∷ rest, same) = (name ∷ rest, (λ (wrong : name ∷ rest ≡ []). cc), same)

-- paths in order of which those up to a place don't come behind a path, and those from there on do
module _ (path : Names) (others : List Names) (at : ℕ) (up : IsStrictlySortedBy by_names others)
    (before : AllWithin (λ other. is_gt (by_names other path) ≡ false) others 0 at) (behind : AllWithin (λ other. by_names path other ≡ Less) others at (length others)) where
  not_before : (k : ℕ) (d other : Names) → get_or others k d ≡ other → IsBelow path other → k < at → ⊥
  not_before k d other here below less =
      let turned : by_names other path ≡ Greater = by_names-total.antisymm other path ∙ ap ordering_reverse (comes_behind path other below) in
      false≢true (sym (subst (λ (q : Names). is_gt (by_names q path) ≡ false) here (before k d (omega arith) less)) ∙ ap is_gt turned)

  -- where any of them is below the path, the one at that place is
  pub first_is_below : IsOver path others → (at < length others) × ((d : Names) → IsBelow path (get_or others at d))
  first_is_below (other, (k, within, here), below) =
      elim (cases_lt k at) [
        | inl less ↦ absurd (not_before k other other here below less)
        | inr from ↦ (omega (arith, within, from), λ d. between path other (get_or others at d) below (behind at d (omega arith) (omega (arith, within, from))) (up_to d from))
      ]
    where
      up_to : (d : Names) → at ≤ k → is_gt (by_names (get_or others at d) other) ≡ false
      up_to d from =
          elim (cases_lt at k) [
            | inl less ↦ ap is_gt (subst (λ (q : Names). by_names (get_or others at d) q ≡ Less) (get_or_default others k d other within ∙ here) (Less-from_sorted by_names others at k d up less within))
            | inr not_less ↦
                let same : k ≡ at = omega (arith, from, not_less) in
                ap is_gt (ap (λ (q : Names). by_names q other) (get_or_default others at d other (omega (arith, within, same)) ∙ ap (λ (j : ℕ). get_or others j other) (sym same) ∙ here) ∙ tied_itself by_names-total other)
          ]

-- ---- references to such paths, as they are looked through
up_to : (one other path : Names) → by_names one other ≡ Less → is_gt (by_names other path) ≡ false → is_gt (by_names one path) ≡ false
up_to one other path less not_after = by (by_names other path) refl not_after
  where
    by : (o : Ordering) → by_names other path ≡ o → is_gt o ≡ false → is_gt (by_names one path) ≡ false
    by Less is kept = ap is_gt (by_names-total.trans one other path less is)
    by Equal is kept = ap is_gt (subst (λ (q : Names). by_names one q ≡ Less) (by_names-antisymmetric other path is) less)
    by Greater is kept = absurd (false≢true (sym kept))

after : (o : Ordering) → is_le o ≡ false → ordering_reverse o ≡ Less
after Less e = absurd (false≢true (sym e))
after Equal e = absurd (false≢true (sym e))
after Greater e = refl

le_only : (o : Ordering) → is_le o ≡ true → is_gt o ≡ false
le_only Less e = refl
le_only Equal e = refl
le_only Greater e = absurd (false≢true e)

le_again : (o : Ordering) → is_gt o ≡ false → is_le o ≡ true
le_again Less e = refl
le_again Equal e = refl
le_again Greater e = absurd (false≢true (sym e))

within_map : {X Y : Type 0} (f : X → Y) (P : Y → Type 0) (xs : List X) (low high : ℕ) → high ≤ length xs → AllWithin (λ x. P (f x)) xs low high → AllWithin P (map f xs) low high
within_map f P [] low high end all k d from less = absurd (omega (arith, end, less))
within_map f P (x ∷ xs) low high end all k d from less = subst P (sym (get_or-map f (x ∷ xs) k x d (omega (arith, less, end)))) (all k x from less)

-- whether a path doesn't come behind another
abbrev pub not_behind : Names → Bor Names → Bool
not_behind path one = is_le (by_names one.now path)

module _ (path : Names) (refs : List (Bor Names)) (up : IsStrictlySortedBy by_names (map deref refs)) where
  rises : (i j : ℕ) (d : Bor Names) → i < j → j < length refs → by_names (get_or refs i d).now (get_or refs j d).now ≡ Less
  rises i j d less within =
      subst (λ (q : Names). by_names q (get_or refs j d).now ≡ Less) (get_or-map deref refs i d d.now (omega (arith, less, within)))
      (subst (λ (q : Names). by_names (get_or (map deref refs) i d.now) q ≡ Less) (get_or-map deref refs j d d.now within)
      (Less-from_sorted by_names (map deref refs) i j d.now up less (omega (arith, within, length-map refs deref))))

  pub parted : IsPartitionedBy (not_behind path) refs
  parted i j d before within is =
      elim (cases_lt i j) [
        | inl less ↦ le_again (by_names (get_or refs i d).now path) (up_to (get_or refs i d).now (get_or refs j d).now path (rises i j d less within) (le_only (by_names (get_or refs j d).now path) is))
        | inr not_less ↦ let same : j ≡ i = omega (arith, before, not_less) in ap (λ (k : ℕ). not_behind path (get_or refs k d)) (sym same) ∙ is
      ]

  module _ (at : ℕ) (end : at ≤ length refs) (point : IsPartitionPoint (λ one. not_behind path one ≡ true) (λ one. not_behind path one ≡ false) refs at) where
    before_at : AllWithin (λ other. is_gt (by_names other path) ≡ false) (map deref refs) 0 at
    before_at = within_map deref (λ (other : Names). is_gt (by_names other path) ≡ false) refs 0 at end (λ k d from less. le_only (by_names (get_or refs k d).now path) (point.0 k d from less))

    behind_at : AllWithin (λ other. by_names path other ≡ Less) (map deref refs) at (length (map deref refs))
    behind_at = subst (AllWithin (λ (other : Names). by_names path other ≡ Less) (map deref refs) at) (sym (length-map refs deref))
        (within_map deref (λ (other : Names). by_names path other ≡ Less) refs at (length refs) (omega arith)
        (λ k d from less. by_names-total.antisymm path (get_or refs k d).now ∙ after (by_names (get_or refs k d).now path) (point.1 k d from less)))

    -- where one of them is below the path, the one at that place is
    pub found_over : IsOver path (map deref refs) → (at < length refs) × ((d : Bor Names) → IsBelow path (get_or refs at d).now)
    found_over over =
        let first = first_is_below path (map deref refs) at up before_at behind_at over in
        let within : at < length refs = omega (arith, first.0, length-map refs deref) in
        (within, λ d. subst (IsBelow path) (get_or-map deref refs at d d.now within) (first.1 d.now))

    pub is_over_at : (d : Bor Names) → at < length refs → IsBelow path (get_or refs at d).now → IsOver path (map deref refs)
    is_over_at d within below = (
      (get_or refs at d).now,
      subst (Contains (map deref refs)) (get_or-map deref refs at d d.now within) (Contains-get_or (map deref refs) at d.now (omega (arith, within, length-map refs deref))),
      below,
    )

-- the keys of a map are in order
less : (o : Ordering) → is_lt o ≡ true → o ≡ Less
less Less e = refl
less Equal e = absurd (false≢true e)
less Greater e = absurd (false≢true e)

module _ {X : Type 0} where
  all_less : (path : Names) (es : List (Names × X)) → below_all by_names path es ≡ true → AllByRecursion (λ other. by_names path other ≡ Less) (map (λ (e : Names × X). e.0) es)
  all_less path [] below = tt
  all_less path (e ∷ es) below =
      let parts = and_parts (is_lt (by_names path e.0)) (below_all by_names path es) below in
      (less (by_names path e.0) parts.0, all_less path es parts.1)

  keys_rise : (es : List (Names × X)) → finite.is_sorted by_names es ≡ true → IsStrictlySortedBy by_names (map (λ (e : Names × X). e.0) es)
  unfolding IsStrictlySortedBy
  keys_rise [] up = tt
  keys_rise (e ∷ es) up =
      let parts = and_parts (below_all by_names e.0 es) (finite.is_sorted by_names es) up in
      (all_less e.0 es parts.0, keys_rise es parts.1)

  pub keys_in_order : (m : finite.FinMap by_names X) → IsStrictlySortedBy by_names (finite.keys m)
  keys_in_order m = keys_rise (finite.entries m) (is_true (finite.is_sorted by_names (finite.entries m)) (finite.entries_sorted m))
    where
      is_true : (b : Bool) → T b → b ≡ true
      is_true true t = refl
      is_true false t = absurd t
