-- What follows of trees, for whoever keeps one: a file more or less leaves a tree.
use Rattle.std.specs.Prelude.{◌≡◌, ◌≢◌, ◌⊎◌, Bool, true, false, cond, List, [], ◌∷◌, ◌++◌, Option, None, Some, is_some, IsSome, map, length, All, slice_index_or}
use Rattle.std.proofs.Common.{refl, sym, ap, subst, ◌∙◌, inl, inr, arith, length-append}
use Rattle.std.specs.Ordering.{eq_by_cmp}
use Rattle.std.specs.FinMap as finite
use Rattle.std.specs.FinMap.{get, insert, remove, keys}
use Rattle.std.proofs.lemmas.List.Folds.{Any-from_list_any, list_any_at}
use Rattle.tup_path.specs.Name.{Names, Content, IsPath}
use Rattle.tup_path.specs.Order.{by_names, by_names-total}
use Rattle.tup_path.proofs.Same.{by_names-decides, get_inserted, get_inserted_elsewhere}
use Rattle.tup_path.proofs.Maps.{no_entries}
use Rattle.tup_path.specs.Tree.{Tree, IsTree, IsBelow}
use Rattle.tup_site.specs.Cause.{IsPlace}

-- ---- what is in a tree

some_either : {X : Type 0} (b : Bool) (x : X) (other : Option X) → IsSome (cond b (Some x) other) → (b ≡ true) ⊎ IsSome other
some_either true x other s = inl refl
some_either false x other s = inr s

some_kept : {X : Type 0} (b : Bool) (x : X) (other : Option X) → IsSome other → IsSome (cond b (Some x) other)
some_kept true x other s = refl
some_kept false x other s = s

some_left : {X : Type 0} (b : Bool) (other : Option X) → IsSome (cond b None other) → IsSome other
some_left true other s = cc
some_left false other s = s

-- what is there after a file was set
pub some_inserted : (tree : Tree) (path : Names) (content : Content) (q : Names) → IsSome (get (insert tree path content) q) → (q ≡ path) ⊎ IsSome (get tree q)
some_inserted tree path content q s =
    elim (some_either (eq_by_cmp by_names q path) content (get tree q) (subst IsSome (finite.get-insert by_names-total tree path content q) s)) [
      | inl e ↦ inl ((by_names-decides q path).0 e)
      | inr s ↦ inr s
    ]

pub inserted_keeps : (tree : Tree) (path : Names) (content : Content) (q : Names) → IsSome (get tree q) → IsSome (get (insert tree path content) q)
inserted_keeps tree path content q s =
    subst IsSome (sym (finite.get-insert by_names-total tree path content q)) (some_kept (eq_by_cmp by_names q path) content (get tree q) s)

-- what is there after a file was taken away
pub some_removed : (tree : Tree) (path q : Names) → IsSome (get (remove tree path) q) → IsSome (get tree q)
some_removed tree path q s = some_left (eq_by_cmp by_names q path) (get tree q) (subst IsSome (finite.get-remove by_names-total tree path q) s)

-- ---- a fact of every path of a tree, listed or looked up

pub all_keys-from_some : (P : Names → Type 0) (tree : Tree) → ((q : Names) → IsSome (get tree q) → P q) → All P (keys tree)
all_keys-from_some P tree each k d l =
    let q = slice_index_or (keys tree) k d in
    each q (finite.contains_key-keys tree q ∙ list_any_at (eq_by_cmp by_names q) (keys tree) k d l ((by_names-decides q q).1 refl))

pub some-from_all_keys : (P : Names → Type 0) (tree : Tree) → All P (keys tree) → (q : Names) → IsSome (get tree q) → P q
some-from_all_keys P tree all q s =
    let any = Any-from_list_any (eq_by_cmp by_names q) (keys tree) (sym (finite.contains_key-keys tree q) ∙ s) in
    subst P (any.3 ∙ sym ((by_names-decides q any.1).0 any.4)) (all any.0 any.1 any.2)

-- ---- trees

not_at_top : {X : Type 0} (there : Option X) → there ≡ None → IsSome there → ⊥
not_at_top there e s = let no : false ≡ true = sym (ap is_some e) ∙ s in cc

none_removed : (tree : Tree) (path q : Names) → get tree q ≡ None → get (remove tree path) q ≡ None
none_removed tree path q e =
    finite.get-remove by_names-total tree path q
    ∙ elim (eq_by_cmp by_names q path) as (λ b. cond b None (get tree q) ≡ None) [ true ↦ refl | false ↦ e ]

nothing_more : (a b : Names) → a ≡ a ++ b → b ≡ []
nothing_more a b e = no_entries b (omega (arith, length-append a b, ap length e))

pub not_below_itself : (path : Names) → IsBelow path path → ⊥
not_below_itself path below = below.1 (nothing_more path below.0 below.2)

none_at_top : (tree : Tree) (path : Names) (content : Content) → path ≢ [] → get tree [] ≡ None → get (insert tree path content) [] ≡ None
none_at_top tree path content not_top none = get_inserted_elsewhere tree path [] content (λ e. not_top (sym e)) ∙ none

-- a tree is one still with a file where a file may be
pub put_tree : (tree : Tree) (path : Names) (content : Content) → IsTree tree → IsPath path → IsPlace tree path → IsTree (insert tree path content)
put_tree tree path content is p place = record {
  paths = all_keys-from_some IsPath _ (λ q s. elim (some_inserted tree path content q s) [
    | inl e ↦ subst IsPath (sym e) p
    | inr s ↦ some-from_all_keys IsPath tree is.paths q s
  ]);
  no_top = none_at_top tree path content place.not_top is.no_top;
  no_file_above = λ folder q sf sq below. elim (some_inserted tree path content folder sf) [
    | inl ef ↦ elim (some_inserted tree path content q sq) [
      | inl eq ↦ not_below_itself path (subst (λ (f : Names). IsBelow f path) ef (subst (λ (r : Names). IsBelow folder r) eq below))
      | inr iq ↦ place.none_below q iq (subst (λ (f : Names). IsBelow f q) ef below)
    ]
    | inr if' ↦ elim (some_inserted tree path content q sq) [
      | inl eq ↦ place.none_above folder if' (subst (λ (r : Names). IsBelow folder r) eq below)
      | inr iq ↦ is.no_file_above folder q if' iq below
    ]
  ];
}

-- a tree is one still without a file
pub removed_tree : (tree : Tree) (path : Names) → IsTree tree → IsTree (remove tree path)
removed_tree tree path is = record {
  paths = all_keys-from_some IsPath _ (λ q s. some-from_all_keys IsPath tree is.paths q (some_removed tree path q s));
  no_top = none_removed tree path [] is.no_top;
  no_file_above = λ folder q sf sq below. is.no_file_above folder q (some_removed tree path folder sf) (some_removed tree path q sq) below;
}

-- a file may be where a tree that has all these files has one
pub place_from_tree : (tree other : Tree) (path : Names) → IsTree other → ((q : Names) → IsSome (get tree q) → IsSome (get other q)) → IsSome (get other path) → IsPlace tree path
place_from_tree tree other path is has there = record {
  not_top = λ e. not_at_top (get other path) (subst (λ (p : Names). get other p ≡ None) (sym e) is.no_top) there;
  none_above = λ file s below. is.no_file_above file path (has file s) there below;
  none_below = λ file s below. is.no_file_above path file there (has file s) below;
}

-- where the tree is one still with a file, the file may be there
pub place_from_put : (tree : Tree) (path : Names) (content : Content) → IsTree (insert tree path content) → IsPlace tree path
place_from_put tree path content is =
    place_from_tree tree (insert tree path content) path is (inserted_keeps tree path content) (ap is_some (get_inserted tree path content))
