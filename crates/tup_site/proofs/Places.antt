-- Files above and below a path stand next to it in the order of paths.
use Rattle.std.proofs.Common.{◌≡◌, ◌≢◌, ◌⊎◌, Bool, true, false, not, List, [], ◌∷◌, ◌++◌, refl, sym, ap, subst, ◌∙◌, inl, inr, IsSome, is_some, Some, None, IsTrue, ◌↔◌}
use Rattle.std.specs.declared.cmp.Ordering.{Ordering}
use Rattle.std.specs.declared.cmp.Ordering.TheVariants.{Less, Equal, Greater}
use Rattle.std.specs.declared.ops.Bound.TheVariants.{Excluded, Unbounded}
use Rattle.std.specs.Option.{IfSome}
use Rattle.std.specs.List.{slice_get}
use Rattle.std.specs.Ordering.{is_gt, is_lt, ordering_then, ordering_reverse}
use Rattle.std.specs.Cmp.{IsTotalOrder, tied_itself}
use Rattle.std.specs.Cmp.Lexicographic.{slice_cmp, nat_list_cmp_total}
use Rattle.std.specs.FinMap as finite
use Rattle.std.specs.FinMap.{IsAntisymmetric, slice_cmp-IsAntisymmetric, nat_cmp-IsAntisymmetric}
use Rattle.std.specs.BTreeMap.{BTreeMap, get}
use Rattle.std.specs.BTreeMap.Range.{IsRangeOf, IsEntryInRange, IsLeBy}
use Rattle.std.proofs.lemmas.List.{append-nil}
use Rattle.tup_path.specs.Name.{Names, Content}
use Rattle.tup_path.specs.Tree.{IsTree, IsBelow, tree_of_files}
use Rattle.tup_path.specs.Order.{by_bytes, by_names, by_names-total}
use Rattle.tup_site.specs.Edit.{NoneAbove, NoneBelow}
use Rattle.tup_path.proofs.Maps.{get-of_entries}

module _ {K : Type 0} {R : K → K → Ordering} (o : IsTotalOrder R) where
  -- what stands between a list and one that goes on from it goes on from it too
  pub goes_on : IsAntisymmetric R → (a r q : List K) → is_gt (slice_cmp R a q) ≡ false → is_gt (slice_cmp R q (a ++ r)) ≡ false → (s : List K) × (q ≡ a ++ s)
  goes_on same [] r q h g = (q, refl)
  goes_on same (x ∷ a) r [] h g = cc
  goes_on same (x ∷ a) r (y ∷ q) h g =
      elim (R x y) as (λ v. R x y ≡ v → is_gt (ordering_then v (slice_cmp R a q)) ≡ false → (s : List K) × (y ∷ q ≡ (x ∷ a) ++ s)) [
        | Less ↦ λ e h'. let back : R y x ≡ Greater = o.antisymm y x ∙ ap ordering_reverse e in
            absurd (let no : true ≡ false = subst (λ v. is_gt (ordering_then v (slice_cmp R q (a ++ r))) ≡ false) back g in cc)
        | Equal ↦ λ e h'.
            let xy : x ≡ y = same x y e in
            let g' = subst (λ v. is_gt (ordering_then v (slice_cmp R q (a ++ r))) ≡ false) (o.antisymm y x ∙ ap ordering_reverse e) g in
            let on = goes_on same a r q h' g' in
            (on.0, (λ i. sym xy i ∷ on.1 i))
        | Greater ↦ λ e h'. absurd (let no : true ≡ false = h' in cc)
      ] refl h

  -- a list comes before one that goes on from it
  pub comes_before : (a r : List K) → r ≢ [] → slice_cmp R a (a ++ r) ≡ Less
  comes_before [] [] more = absurd (more refl)
  comes_before [] (y ∷ r) more = refl
  comes_before (x ∷ a) r more = ap (λ v. ordering_then v (slice_cmp R a (a ++ r))) (tied_itself o x) ∙ comes_before a r more

as_no_fact : (r : Bool) (P Q : Type 0) → IsTrue r ↔ P → (P → Q → ⊥) → ((P → ⊥) → Q) → IsTrue (not r) ↔ Q
as_no_fact true P Q d apart or = (λ (no : false ≡ true). cc, λ q. absurd (apart (d.0 refl) q))
as_no_fact false P Q d apart or = (λ _. or (λ p. let no : false ≡ true = d.1 p in cc), λ _. refl)

paths_total : IsTotalOrder by_bytes
paths_total = nat_list_cmp_total

paths_same : IsAntisymmetric by_bytes
paths_same = slice_cmp-IsAntisymmetric nat_cmp-IsAntisymmetric

not_after : (x y : Names) → is_lt (by_names y x) ≡ false → is_gt (by_names x y) ≡ false
not_after x y e = ap is_gt (by_names-total.antisymm x y) ∙ turned (by_names y x) ∙ e
  where
    turned : (r : Ordering) → is_gt (ordering_reverse r) ≡ is_lt r
    turned Less = refl
    turned Equal = refl
    turned Greater = refl

not_after_less : (x y : Names) → by_names x y ≡ Less → is_gt (by_names x y) ≡ false
not_after_less x y e = ap is_gt e

folder_first : (folder path : Names) → IsBelow folder path → by_names folder path ≡ Less
folder_first folder path below = subst (λ (q : Names). by_names folder q ≡ Less) (sym below.2) (comes_before paths_total folder below.0 below.1)

-- what goes on from a path is that path or lies below it
same_or_below : (a q : Names) → (s : Names) × (q ≡ a ++ s) → (q ≡ a) ⊎ IsBelow a q
same_or_below a q ([], e) = inl (e ∙ append-nil a)
same_or_below a q (x ∷ s, e) = inr (x ∷ s, (λ (no : x ∷ s ≡ []). cc), e)

some_entry : (m : BTreeMap Names Content) (q : Names) (content : Content) → get by_names m q ≡ Some content → IsSome (finite.get (tree_of_files m.entries) q)
some_entry m q content e = ap is_some (get-of_entries by_names-total m.entries q ∙ e)

has_entry : (m : BTreeMap Names Content) (q : Names) → IsSome (finite.get (tree_of_files m.entries) q) → IsSome (get by_names m q)
has_entry m q s = subst IsSome (get-of_entries by_names-total m.entries q) s

no_entry : (m : BTreeMap Names Content) (q : Names) → get by_names m q ≡ None → IsSome (finite.get (tree_of_files m.entries) q) → ⊥
no_entry m q none s = let no : false ≡ true = sym (ap is_some none) ∙ has_entry m q s in cc

-- no file comes before a path
pub none_above_at_front : (m : BTreeMap Names Content) (path : Names) (r : List (Names × Content)) → IsRangeOf by_names Unbounded (Excluded path) m r → r ≡ [] → NoneAbove (tree_of_files m.entries) path
none_above_at_front m path r range empty file s below =
    no_entry m file (range.5 empty file (tt, folder_first file path below)) s

-- the file right before a path isn't above it, and so none is
above_is_before : (m : BTreeMap Names Content) (path : Names) (r t : List (Names × Content)) (e : Names × Content) → IsTree (tree_of_files m.entries) → IsRangeOf by_names Unbounded (Excluded path) m r → r ≡ t ++ e ∷ [] → (IsBelow e.0 path → ⊥) → NoneAbove (tree_of_files m.entries) path
above_is_before m path r t e is range last apart file s below =
    let at = range.3 e t last in
    let before = range.4 e t last file (tt, folder_first file path below) (has_entry m file s) in
    let up_to = subst (λ (q : Names). is_gt (by_names e.0 q) ≡ false) below.2 (not_after_less e.0 path at.0.1) in
    elim (same_or_below file e.0 (goes_on paths_total paths_same file below.0 e.0 (not_after file e.0 before) up_to)) [
      | inl same ↦ apart (subst (λ (q : Names). IsBelow q path) (sym same) below)
      | inr under ↦ is.no_file_above file e.0 s (some_entry m e.0 e.1 at.1) under
    ]

pub none_above_from_last : (m : BTreeMap Names Content) (path : Names) (r t : List (Names × Content)) (e : Names × Content) (b : Bool) → IsTree (tree_of_files m.entries) → IsRangeOf by_names Unbounded (Excluded path) m r → r ≡ t ++ e ∷ [] → IsTrue b ↔ IsBelow e.0 path → IsTrue (not b) ↔ NoneAbove (tree_of_files m.entries) path
none_above_from_last m path r t e b is range last tested =
    as_no_fact b _ _ tested (λ below none. none e.0 (some_entry m e.0 e.1 (range.3 e t last).1) below) (above_is_before m path r t e is range last)

-- no file comes behind a path
pub none_below_at_end : (m : BTreeMap Names Content) (path : Names) (r : List (Names × Content)) → IsRangeOf by_names (Excluded path) Unbounded m r → r ≡ [] → NoneBelow (tree_of_files m.entries) path
none_below_at_end m path r range empty file s below =
    no_entry m file (range.5 empty file (folder_first path file below, tt)) s

-- the file right behind a path isn't below it, and so none is
below_is_behind : (m : BTreeMap Names Content) (path : Names) (r t : List (Names × Content)) (e : Names × Content) → IsRangeOf by_names (Excluded path) Unbounded m r → r ≡ e ∷ t → (IsBelow path e.0 → ⊥) → NoneBelow (tree_of_files m.entries) path
below_is_behind m path r t e range first apart file s below =
    let at : by_names path e.0 ≡ Less = (subst (λ (l : List (Names × Content)). IfSome (slice_get l 0) (IsEntryInRange by_names (Excluded path) Unbounded m)) first range.1).0.0 in
    let least : is_gt (by_names e.0 file) ≡ false = subst (λ (l : List (Names × Content)). IfSome (slice_get l 0) (λ e. IsLeBy by_names e.0 file)) first (range.2 file (folder_first path file below, tt) (has_entry m file s)) in
    let up_to = subst (λ (q : Names). is_gt (by_names e.0 q) ≡ false) below.2 least in
    elim (same_or_below path e.0 (goes_on paths_total paths_same path below.0 e.0 (not_after_less path e.0 at) up_to)) [
      | inl same ↦ let no : Equal ≡ Less = sym (tied_itself by_names-total path) ∙ subst (λ (q : Names). by_names path q ≡ Less) same at in cc
      | inr under ↦ apart under
    ]

pub none_below_from_first : (m : BTreeMap Names Content) (path : Names) (r t : List (Names × Content)) (e : Names × Content) (b : Bool) → IsRangeOf by_names (Excluded path) Unbounded m r → r ≡ e ∷ t → IsTrue b ↔ IsBelow path e.0 → IsTrue (not b) ↔ NoneBelow (tree_of_files m.entries) path
none_below_from_first m path r t e b range first tested =
    as_no_fact b _ _ tested
    (λ below none. none e.0 (some_entry m e.0 e.1 (subst (λ (l : List (Names × Content)). IfSome (slice_get l 0) (IsEntryInRange by_names (Excluded path) Unbounded m)) first range.1).1) below)
    (below_is_behind m path r t e range first)
