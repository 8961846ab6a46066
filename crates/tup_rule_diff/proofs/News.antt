-- Puts of what stands may be left out of edits: what is needed of their changes is the same.
use Rattle.std.specs.Prelude.{◌≡◌, ◌⊎◌, ℕ, Bool, true, false, cond, ◌&&◌, List, [], ◌∷◌, ◌++◌, Option, None, Some, Contains, filter, map}
use Rattle.std.proofs.Common.{refl, sym, ap, subst, ◌∙◌, inl, inr}
use Rattle.std.specs.Ordering.{eq_by_cmp, is_lt}
use Rattle.std.specs.Cmp.Lexicographic.{nat_list_cmp_total}
use Rattle.std.specs.FinMap as finite
use Rattle.std.specs.FinMap.{find, is_sorted}
use Rattle.std.specs.FinMap.Entries.{below_all, same_entries}
use Rattle.std.proofs.Math.Dec.{T}
use Rattle.std.proofs.lemmas.Bool.{and_from, and_parts}
use Rattle.tup_path.specs.Order.{by_bytes}
use Rattle.tup_table.specs.declared.change.Change.{Change}
use Rattle.tup_table.specs.Entries.{key_of}
use Rattle.tup_graph.specs.declared.edit.Edit.{Edit}
use Rattle.tup_graph.specs.Edits.{change_of}
use Rattle.tup_graph.proofs.Maps.{by_bytes-antisymmetric}
use Rattle.tup_scan_diff.proofs.Named.{name-decides}
use Rattle.tup_rule_diff.proofs.Covered.{Last, after, after_both, covers, keyed, mapped}
use Rattle.tup_rule_diff.proofs.Puts.{first_or, none_below, put_over, put_there, t_true}

-- ---- changes that pass a test
abbrev passed : (Change → Bool) → Option Change → Option Change
passed test None = None
passed test (Some change) = cond (test change) (Some change) None

module _ (test : Change → Bool) where
  abbrev passes : List ℕ × Change → Bool
  passes e = test e.1

  below_passed : (k : List ℕ) (es : List (List ℕ × Change)) → below_all by_bytes k es ≡ true → below_all by_bytes k (filter passes es) ≡ true
  below_passed k [] up = refl
  below_passed k (e ∷ es) up =
      let parts = and_parts (is_lt (by_bytes k e.0)) (below_all by_bytes k es) up in
      let later = below_passed k es parts.1 in
      elim (test e.1) as (λ b. below_all by_bytes k (cond b (e ∷ filter passes es) (filter passes es)) ≡ true) [
        | true ↦ and_from (is_lt (by_bytes k e.0)) (below_all by_bytes k (filter passes es)) parts.0 later
        | false ↦ later
      ]

  sorted_passed : (es : List (List ℕ × Change)) → is_sorted by_bytes es ≡ true → is_sorted by_bytes (filter passes es) ≡ true
  sorted_passed [] up = refl
  sorted_passed (e ∷ es) up =
      let parts = and_parts (below_all by_bytes e.0 es) (is_sorted by_bytes es) up in
      let later = sorted_passed es parts.1 in
      elim (test e.1) as (λ b. is_sorted by_bytes (cond b (e ∷ filter passes es) (filter passes es)) ≡ true) [
        | true ↦ and_from (below_all by_bytes e.0 (filter passes es)) (is_sorted by_bytes (filter passes es)) (below_passed e.0 es parts.0) later
        | false ↦ later
      ]

  find_passed : (es : List (List ℕ × Change)) → is_sorted by_bytes es ≡ true → (q : List ℕ) → find by_bytes q (filter passes es) ≡ passed test (find by_bytes q es)
  find_passed [] up q = refl
  find_passed (e ∷ es) up q =
      let parts = and_parts (below_all by_bytes e.0 es) (is_sorted by_bytes es) up in
      let later = find_passed es parts.1 q in
      (elim (test e.1) as (λ b. test e.1 ≡ b → find by_bytes q (cond b (e ∷ filter passes es) (filter passes es)) ≡ passed test (cond (eq_by_cmp by_bytes q e.0) (Some e.1) (find by_bytes q es))) [
        | true ↦ λ is. ap (cond (eq_by_cmp by_bytes q e.0) (Some e.1)) later ∙ in_it (eq_by_cmp by_bytes q e.0) is
        | false ↦ λ is. later ∙ not_in (eq_by_cmp by_bytes q e.0) refl is parts.0
      ]) refl
    where
      in_it : (b : Bool) → test e.1 ≡ true → cond b (Some e.1) (passed test (find by_bytes q es)) ≡ passed test (cond b (Some e.1) (find by_bytes q es))
      in_it true is = ap (λ (t : Bool). cond t (Some e.1) None) (sym is)
      in_it false is = refl

      not_in : (b : Bool) → eq_by_cmp by_bytes q e.0 ≡ b → test e.1 ≡ false → below_all by_bytes e.0 es ≡ true → passed test (find by_bytes q es) ≡ passed test (cond b (Some e.1) (find by_bytes q es))
      not_in true same is below =
          ap (passed test) (ap (λ (k : List ℕ). find by_bytes k es) ((name-decides q e.0).0 same) ∙ none_below nat_list_cmp_total by_bytes-antisymmetric name-decides e.0 es below) ∙ ap (λ (t : Bool). cond t (Some e.1) None) (sym is)
      not_in false same is below = refl

  second : List ℕ × Change → Change
  second e = e.1

  seconds : (es : List (List ℕ × Change)) → map (λ (e : List ℕ × Change). e.1) (filter passes es) ≡ filter test (map (λ (e : List ℕ × Change). e.1) es)
  seconds [] = refl
  seconds (e ∷ es) =
      let later = seconds es in
      elim (test e.1) as (λ b. map (λ (one : List ℕ × Change). one.1) (cond b (e ∷ filter passes es) (filter passes es)) ≡ cond b (e.1 ∷ filter test (map (λ (one : List ℕ × Change). one.1) es)) (filter test (map (λ (one : List ℕ × Change). one.1) es))) [
        | true ↦ ap (λ (l : List Change). e.1 ∷ l) later
        | false ↦ later
      ]

  sorted : (m : Last) → is_sorted by_bytes (finite.entries m) ≡ true
  sorted m = t_true (is_sorted by_bytes (finite.entries m)) (finite.entries_sorted m)

  needed_alike : (a b : Last) → ((q : List ℕ) → passed test (finite.get a q) ≡ passed test (finite.get b q)) → filter test (finite.values a) ≡ filter test (finite.values b)
  needed_alike a b same =
      sym (seconds (finite.entries a))
      ∙ ap (map (λ (e : List ℕ × Change). e.1))
      (same_entries by_bytes nat_list_cmp_total by_bytes-antisymmetric (filter passes (finite.entries a)) (filter passes (finite.entries b)) (subst T (sym (sorted_passed (finite.entries a) (sorted a))) tt) (subst T (sym (sorted_passed (finite.entries b) (sorted b))) tt)
      (λ q. find_passed (finite.entries a) (sorted a) q ∙ ap (passed test) (sym (finite.get-entries a q)) ∙ same q ∙ ap (passed test) (finite.get-entries b q) ∙ sym (find_passed (finite.entries b) (sorted b) q)))
      ∙ seconds (finite.entries b)

  -- ---- puts of what stands
  module _ (front all news back : List Edit) (within : (edit : Edit) → Contains news edit → Contains all edit) (rest : (edit : Edit) → Contains all edit → Contains news edit ⊎ (test (change_of edit) ≡ false))
      (one : (edit other : Edit) → Contains all edit → Contains all other → key_of (change_of edit) ≡ key_of (change_of other) → change_of edit ≡ change_of other)
      (apart : (edit other : Edit) → Contains all edit → Contains front other → key_of (change_of other) ≡ key_of (change_of edit) → ⊥) where
    abbrev or_before : Option Change → Option Change → Option Change
    or_before = first_or nat_list_cmp_total by_bytes-antisymmetric name-decides

    last_of_both : (xs ys : List Edit) (k : List ℕ) → finite.get (after finite.empty (xs ++ ys)) k ≡ or_before (finite.get (after finite.empty ys) k) (finite.get (after finite.empty xs) k)
    last_of_both xs ys k =
        ap (λ (m : Last). finite.get m k) (after_both finite.empty xs ys) ∙ put_over nat_list_cmp_total by_bytes-antisymmetric name-decides (map keyed ys) (after finite.empty xs) k

    edit_of : (xs : List Edit) (k : List ℕ) (change : Change) → finite.get (after finite.empty xs) k ≡ Some change → (edit : Edit) × Contains xs edit × (key_of (change_of edit) ≡ k) × (change_of edit ≡ change)
    edit_of xs k change is = elim (put_there nat_list_cmp_total by_bytes-antisymmetric name-decides (map keyed xs) finite.empty k change is) [
      | inl there ↦ (let found = mapped keyed xs (k, change) there in (found.0, found.1, (λ i. (found.2 i).0), (λ i. (found.2 i).1)))
      | inr none ↦ absurd (let wrong : None ≡ Some change = sym (finite.get-empty by_bytes k) ∙ none in cc)
    ]

    at : (k : List ℕ) (b a n p : Option Change) → finite.get (after finite.empty all) k ≡ a → finite.get (after finite.empty news) k ≡ n → finite.get (after finite.empty front) k ≡ p → passed test (or_before (or_before b a) p) ≡ passed test (or_before (or_before b n) p)
    at k (Some x) a n p is_a is_n is_p = refl
    at k None None None p is_a is_n is_p = refl
    at k None None (Some d) p is_a is_n is_p =
        let edit = edit_of news k d is_n in
        let there = covers all edit.0 edit.0 (within edit.0 edit.1) refl in
        absurd (let wrong : None ≡ Some there.0 = sym is_a ∙ ap (finite.get (after finite.empty all)) (sym edit.2) ∙ there.1 in cc)
    at k None (Some c) (Some d) p is_a is_n is_p =
        let edit = edit_of all k c is_a in
        let other = edit_of news k d is_n in
        ap (λ (x : Change). passed test (Some x)) (sym edit.3 ∙ one edit.0 other.0 edit.1 (within other.0 other.1) (edit.2 ∙ sym other.2) ∙ other.3)
    at k None (Some c) None (Some e) is_a is_n is_p =
        let edit = edit_of all k c is_a in
        let other = edit_of front k e is_p in
        absurd (apart edit.0 other.0 edit.1 other.1 (other.2 ∙ sym edit.2))
    at k None (Some c) None None is_a is_n is_p =
        let edit = edit_of all k c is_a in
        elim (rest edit.0 edit.1) [
          | inl there ↦ (let put = covers news edit.0 edit.0 there refl in absurd (let wrong : None ≡ Some put.0 = sym is_n ∙ ap (finite.get (after finite.empty news)) (sym edit.2) ∙ put.1 in cc))
          | inr stands ↦ ap (λ (t : Bool). cond t (Some c) None) (ap test (sym edit.3) ∙ stands)
        ]

    pub needed_same : filter test (finite.values (after finite.empty (front ++ (all ++ back)))) ≡ filter test (finite.values (after finite.empty (front ++ (news ++ back))))
    needed_same = needed_alike (after finite.empty (front ++ (all ++ back))) (after finite.empty (front ++ (news ++ back))) (λ k.
        let b = finite.get (after finite.empty back) k in
        let p = finite.get (after finite.empty front) k in
        ap (passed test) (last_of_both front (all ++ back) k ∙ ap (λ (o : Option Change). or_before o p) (last_of_both all back k))
        ∙ at k b (finite.get (after finite.empty all) k) (finite.get (after finite.empty news) k) p refl refl refl
        ∙ ap (passed test) (sym (last_of_both front (news ++ back) k ∙ ap (λ (o : Option Change). or_before o p) (last_of_both news back k))))
