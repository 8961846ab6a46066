-- The paths that a graph owns, as lists in their order.
use Rattle.std.proofs.Common.{◌≡◌, ◌||◌, ◌&&◌, not, ◌++◌, Bool, true, false, cond, T, is_some, List, [], ◌∷◌, map, filter, All, refl, sym, ap, subst, ◌∙◌}
use Rattle.std.specs.FinMap as finite
use Rattle.std.specs.FinMap.Entries.{below_all}
use Rattle.std.specs.List.{list_any}
use Rattle.std.specs.Ordering.{is_lt}
use Rattle.std.specs.declared.cmp.Ordering.{Ordering}
use Rattle.std.specs.declared.cmp.Ordering.TheVariants.{Less, Equal, Greater}
use Rattle.std.proofs.lemmas.Bool.{and_parts, false≢true}
use Rattle.std.proofs.lemmas.List.{map-id}
use Rattle.std.proofs.lemmas.List.Elements.{All-nil, All-cons, All-head, All-tail}
use Rattle.std.proofs.lemmas.List.Folds.{list_any-append}
use Rattle.tup_path.specs.Name.{Names}
use Rattle.tup_path.specs.Order.{by_names, same_path, same_path-by_names}
use Rattle.tup_path.proofs.Same.{same_path-decides}
use Rattle.tup_rule.specs.Rule.{among}
use Rattle.tup_rule.proofs.Laws.{among-decides}
use Rattle.tup_graph.specs.Graph.{GraphState}
use Rattle.tup_graph.specs.Transactions.{with_forgotten}
use Rattle.tup_ledger.specs.Ascending.{IsAscending, ascending}
use Rattle.tup_ledger.specs.Members.{Before, ascending-IsAscending, ascending_has, ascending_has_only, same_members}
use Rattle.tup_ledger.specs.Owned.{owned_in, with_owned}
use Rattle.tup_ledger.proofs.Trees.{owned_more, owned_less}

less_is : (o : Ordering) → is_lt o ≡ true → o ≡ Less
less_is Less e = refl
less_is Equal e = absurd (false≢true e)
less_is Greater e = absurd (false≢true e)

module _ {X : Type 0} where
  abbrev keys_in : List (Names × X) → List Names
  keys_in es = map (λ (e : Names × X). e.0) es

  all_later : (path : Names) (es : List (Names × X)) → below_all by_names path es ≡ true → All (Before path) (keys_in es)
  all_later path [] below = All-nil (Before path)
  all_later path (e ∷ es) below =
      let parts = and_parts (is_lt (by_names path e.0)) (below_all by_names path es) below in
      All-cons (Before path) e.0 (keys_in es) (less_is (by_names path e.0) parts.0) (all_later path es parts.1)

  pub sorted_ascend : (es : List (Names × X)) → finite.is_sorted by_names es ≡ true → IsAscending (keys_in es)
  sorted_ascend [] up = tt
  sorted_ascend (e ∷ es) up =
      let parts = and_parts (below_all by_names e.0 es) (finite.is_sorted by_names es) up in
      (all_later e.0 es parts.0, sorted_ascend es parts.1)

  -- a path is among the keys where something stands under it
  pub among_keys : (m : finite.FinMap by_names X) (path : Names) → among path (finite.keys m) ≡ is_some (finite.get m path)
  among_keys m path = (λ i. list_any (λ other. same_path-by_names path other i) (finite.keys m)) ∙ sym (finite.contains_key-keys m path)

  -- so an ascending list with just those members is the list of keys
  keys_are : (m : finite.FinMap by_names X) (paths : List Names) → IsAscending (finite.keys m) → IsAscending paths → ((path : Names) → is_some (finite.get m path) ≡ among path paths) → finite.keys m ≡ paths
  keys_are m paths up ascends same =
      same_members (finite.keys m) paths up ascends
      (λ path has. (among-decides path paths).0 (sym (among_keys m path ∙ same path) ∙ (among-decides path (finite.keys m)).1 has))
      (λ path has. (among-decides path (finite.keys m)).0 (among_keys m path ∙ same path ∙ (among-decides path paths).1 has))

among_ascending : (path : Names) (paths : List Names) → among path paths ≡ among path (ascending paths)
among_ascending path paths =
    same_answers (among path paths) (among path (ascending paths))
    (λ is. (among-decides path (ascending paths)).1 (ascending_has paths path ((among-decides path paths).0 is)))
    (λ is. (among-decides path paths).1 (ascending_has_only paths path ((among-decides path (ascending paths)).0 is)))
  where
    same_answers : (a b : Bool) → (a ≡ true → b ≡ true) → (b ≡ true → a ≡ true) → a ≡ b
    same_answers true b there back = sym (there refl)
    same_answers false true there back = back refl
    same_answers false false there back = refl

true_if : (b : Bool) → T b → b ≡ true
true_if true is = refl
true_if false is = absurd is

pub owned_ascends : (g : GraphState) → IsAscending (owned_in g)
owned_ascends g = sorted_ascend (finite.entries g.owned) (true_if (finite.is_sorted by_names (finite.entries g.owned)) (finite.entries_sorted g.owned))

-- owned are then what was owned, and these paths
pub owned_with : (g : GraphState) (paths : List Names) → owned_in (with_owned g paths) ≡ ascending (owned_in g ++ paths)
owned_with g paths =
    keys_are (with_owned g paths).owned (ascending (owned_in g ++ paths)) (owned_ascends (with_owned g paths)) (ascending-IsAscending (owned_in g ++ paths))
    (λ path. owned_more g paths g.owned path ∙ turned (among path paths) (is_some (finite.get g.owned path)) ∙ ap (λ (b : Bool). b || among path paths) (sym (among_keys g.owned path))
    ∙ sym (list_any-append (same_path path) (owned_in g) paths) ∙ among_ascending path (owned_in g ++ paths))
  where
    turned : (a b : Bool) → (a || b) ≡ (b || a)
    turned true true = refl
    turned true false = refl
    turned false true = refl
    turned false false = refl

-- ---- items that pass a test: their paths ascend as those of all items do
module _ {X : Type 0} (path_of : X → Names) (test : X → Bool) where
  abbrev paths_of : List X → List Names
  paths_of items = map path_of items

  passing_below : (path : Names) (items : List X) → All (Before path) (paths_of items) → All (Before path) (paths_of (filter test items))
  passing_below path [] below = below
  passing_below path (item ∷ items) below =
      let rest = passing_below path items (All-tail (Before path) (path_of item) (paths_of items) below) in
      elim (test item) as (λ passes. All (Before path) (paths_of (cond passes (item ∷ filter test items) (filter test items)))) [
        | true ↦ All-cons (Before path) (path_of item) (paths_of (filter test items)) (All-head (Before path) (path_of item) (paths_of items) below) rest
        | false ↦ rest
      ]

  pub passing_ascend : (items : List X) → IsAscending (paths_of items) → IsAscending (paths_of (filter test items))
  passing_ascend [] up = tt
  passing_ascend (item ∷ items) up =
      elim (test item) as (λ passes. IsAscending (paths_of (cond passes (item ∷ filter test items) (filter test items)))) [
        | true ↦ (passing_below (path_of item) items up.0, passing_ascend items up.1)
        | false ↦ passing_ascend items up.1
      ]

pub filtered_ascend : (test : Names → Bool) (paths : List Names) → IsAscending paths → IsAscending (filter test paths)
filtered_ascend test paths up = subst IsAscending (map-id (filter test paths)) (passing_ascend (λ (path : Names). path) test paths (subst IsAscending (sym (map-id paths)) up))

-- ---- paths that pass a test
module _ (test : Names → Bool) where
  none_among : (path : Names) → (test path && false) ≡ false
  none_among path = elim (test path) as (λ passes. (passes && false) ≡ false) [ true ↦ refl | false ↦ refl ]

  one_among : (same passes : Bool) (rest : Bool) (path other : Names) → (same ≡ true → test other ≡ test path) → test other ≡ passes → (test path && (same || rest)) ≡ cond passes (same || (test path && rest)) (test path && rest)
  one_among true true rest path other alike is = rw (sym (alike refl) ∙ is) refl
  one_among true false rest path other alike is = rw (sym (alike refl) ∙ is) refl
  one_among false true rest path other alike is = refl
  one_among false false rest path other alike is = refl

  among_filtered : (path : Names) (paths : List Names) → among path (filter test paths) ≡ (test path && among path paths)
  among_filtered path [] = sym (none_among path)
  among_filtered path (other ∷ paths) =
      (elim (test other) as (λ passes. test other ≡ passes → among path (cond passes (other ∷ filter test paths) (filter test paths)) ≡ (test path && (same_path path other || among path paths))) [
        | true ↦ λ is. ap (λ (rest : Bool). same_path path other || rest) (among_filtered path paths)
            ∙ sym (one_among (same_path path other) true (among path paths) path other (λ same. ap test (sym ((same_path-decides path other).0 same))) is)
        | false ↦ λ is. among_filtered path paths ∙ sym (one_among (same_path path other) false (among path paths) path other (λ same. ap test (sym ((same_path-decides path other).0 same))) is)
      ]) refl

-- and then what was owned but for these paths
pub owned_without : (g : GraphState) (paths : List Names) → owned_in (with_forgotten g paths) ≡ filter (λ path. not (among path paths)) (owned_in g)
owned_without g paths =
    let others = λ (path : Names). not (among path paths) in
    keys_are (with_forgotten g paths).owned (filter others (owned_in g)) (owned_ascends (with_forgotten g paths)) (filtered_ascend others (owned_in g) (owned_ascends g))
    (λ path. owned_less paths g.owned path ∙ ap (λ (owned : Bool). others path && owned) (sym (among_keys g.owned path)) ∙ sym (among_filtered others path (owned_in g)))
