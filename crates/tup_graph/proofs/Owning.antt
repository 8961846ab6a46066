-- What a place among owned paths tells of a path.
use Rattle.std.specs.Prelude.{◌≡◌, Bool, true, false, ◌||◌, List, [], ◌∷◌, ◌++◌, Option, Some, None, map, option_map}
use Rattle.std.proofs.Common.{T, refl, sym, ap, subst, ◌∙◌, append_assoc}
use Rattle.std.proofs.lemmas.Bool.{and_from, and_parts, or_right}
use Rattle.std.proofs.lemmas.Cmp.{tied_itself}
use Rattle.std.proofs.lemmas.List.{map-append}
use Rattle.std.proofs.lemmas.List.Folds.{list_any-append}
use Rattle.std.specs.FinMap as finite
use Rattle.std.specs.FinMap.Entries.{below_all}
use Rattle.std.specs.List.{list_any}
use Rattle.std.specs.Map.Iter.{TakesFirst}
use Rattle.std.specs.Ordering.{eq_by_cmp, is_eq, is_lt, ordering_reverse}
use Rattle.std.specs.declared.cmp.Ordering.{Ordering}
use Rattle.std.specs.declared.cmp.Ordering.TheVariants.{Less, Equal, Greater}
use Rattle.tup_path.specs.Name.{Names}
use Rattle.tup_path.specs.Order.{by_names, by_names-total}
use Rattle.tup_graph.specs.Graph.{GraphState, is_owned}
use Rattle.tup_graph.specs.Owners.{BeginsWith, EndsAt, IsAhead, IsBehind, IsPlace, key_of}
use Rattle.tup_graph.specs.declared.owned.Owned.{Owned}

abbrev Entry : Type 0
Entry = Names × Owned

-- whether one of some entries is at a path
abbrev any : Names → List Entry → Bool
any path entries = list_any (eq_by_cmp by_names path) (map (λ (entry : Entry). entry.0) entries)

less : (o : Ordering) → is_lt o ≡ true → o ≡ Less
less Less is = refl
less Equal is = absurd (let wrong : false ≡ true = is in cc)
less Greater is = absurd (let wrong : false ≡ true = is in cc)

holds : (b : Bool) → T b → b ≡ true
holds true is = refl
holds false is = absurd is

-- ---- entries in order

below : (path key : Names) (entries : List Entry) → by_names path key ≡ Less → below_all by_names key entries ≡ true → below_all by_names path entries ≡ true
below path key [] first low = refl
below path key (entry ∷ entries) first low =
    let parts = and_parts (is_lt (by_names key entry.0)) (below_all by_names key entries) low in
    and_from (is_lt (by_names path entry.0)) (below_all by_names path entries)
    (ap is_lt (by_names-total.trans path key entry.0 first (less (by_names key entry.0) parts.0))) (below path key entries first parts.1)

-- a path before some entries isn't among them
none_ahead : (path : Names) (entries : List Entry) → below_all by_names path entries ≡ true → any path entries ≡ false
none_ahead path [] low = refl
none_ahead path (entry ∷ entries) low =
    let parts = and_parts (is_lt (by_names path entry.0)) (below_all by_names path entries) low in
    ap (λ (o : Ordering). is_eq o || any path entries) (less (by_names path entry.0) parts.0) ∙ none_ahead path entries parts.1

ends_somewhere : (entry : Entry) (more : List Entry) → EndsAt (entry ∷ more) None → ⊥
ends_somewhere entry [] ends = let wrong : None ≡ Some entry.0 = ends in cc
ends_somewhere entry (next ∷ more) ends = ends_somewhere next more ends

-- the first of some entries comes before what the last comes before
first_less : (path before : Names) (entry : Entry) (more rest : List Entry) → finite.is_sorted by_names (entry ∷ more ++ rest) ≡ true → EndsAt (entry ∷ more) (Some before) → by_names before path ≡ Less → by_names entry.0 path ≡ Less
first_less path before entry [] rest up ends behind = let same : before ≡ entry.0 = (let some : Some before ≡ Some entry.0 = ends in cc) in subst (λ (key : Names). by_names key path ≡ Less) same behind
first_less path before entry (next ∷ more) rest up ends behind =
    let parts = and_parts (below_all by_names entry.0 (next ∷ more ++ rest)) (finite.is_sorted by_names (next ∷ more ++ rest)) up in
    let low = and_parts (is_lt (by_names entry.0 next.0)) (below_all by_names entry.0 (more ++ rest)) parts.0 in
    by_names-total.trans entry.0 next.0 path (less (by_names entry.0 next.0) low.0) (first_less path before next more rest parts.1 ends behind)

tail_ends : (entry : Entry) (more : List Entry) (before : Names) → EndsAt (entry ∷ more) (Some before) → (last : Option Names) × EndsAt more last × ((path : Names) → by_names before path ≡ Less → IsBehind last path)
tail_ends entry [] before ends = (None, refl, λ path behind. tt)
tail_ends entry (next ∷ more) before ends = (Some before, ends, λ path behind. behind)

-- a path behind some entries isn't among them
none_behind : (path : Names) (passed rest : List Entry) (before : Option Names) → finite.is_sorted by_names (passed ++ rest) ≡ true → EndsAt passed before → IsBehind before path → any path passed ≡ false
none_behind path [] rest before up ends behind = refl
none_behind path (entry ∷ more) rest None up ends behind = absurd (ends_somewhere entry more ends)
none_behind path (entry ∷ more) rest (Some before) up ends behind =
    let first : by_names entry.0 path ≡ Less = first_less path before entry more rest up ends behind in
    let apart : by_names path entry.0 ≡ Greater = by_names-total.antisymm path entry.0 ∙ ap ordering_reverse first in
    let tail = tail_ends entry more before ends in
    ap (λ (o : Ordering). is_eq o || any path more) apart
    ∙ none_behind path more rest tail.0 (and_parts (below_all by_names entry.0 (more ++ rest)) (finite.is_sorted by_names (more ++ rest)) up).1 tail.1 (tail.2 path behind)

sorted_rest : (passed rest : List Entry) → finite.is_sorted by_names (passed ++ rest) ≡ true → finite.is_sorted by_names rest ≡ true
sorted_rest [] rest up = up
sorted_rest (entry ∷ passed) rest up = sorted_rest passed rest (and_parts (below_all by_names entry.0 (passed ++ rest)) (finite.is_sorted by_names (passed ++ rest)) up).1

-- ---- what a place tells

module _ (g : GraphState) (before next : Option Names) (left : List Entry) (is : IsPlace g before next left) where
  up : finite.is_sorted by_names (is.passed ++ is.rest) ≡ true
  up = ap (finite.is_sorted by_names) (sym is.whole) ∙ holds (finite.is_sorted by_names (finite.entries g.owned)) (finite.entries_sorted g.owned)

  parted : (path : Names) → is_owned g path ≡ (any path is.passed || any path is.rest)
  parted path =
      finite.contains_key-keys g.owned path ∙ ap (any path) is.whole
      ∙ ap (list_any (eq_by_cmp by_names path)) (map-append (λ (entry : Entry). entry.0) is.passed is.rest)
      ∙ list_any-append (eq_by_cmp by_names path) (map (λ (entry : Entry). entry.0) is.passed) (map (λ (entry : Entry). entry.0) is.rest)

  -- a path between the last one that was passed and the next one isn't owned
  pub apart : (path : Names) → IsBehind before path → IsAhead path next → is_owned g path ≡ false
  apart path behind ahead =
      parted path ∙ ap (λ b. b || any path is.rest) (none_behind path is.passed is.rest before up is.last behind)
      ∙ by is.rest next is.first (sorted_rest is.passed is.rest up) ahead
    where
      by : (rest : List Entry) (key : Option Names) → BeginsWith rest key left → finite.is_sorted by_names rest ≡ true → IsAhead path key → any path rest ≡ false
      by [] key first sorted low = refl
      by (entry ∷ more) None first sorted low = absurd (let wrong : None ≡ Some entry.0 = first.0 in cc)
      by (entry ∷ more) (Some key) first sorted low =
          let same : key ≡ entry.0 = (let some : Some key ≡ Some entry.0 = first.0 in cc) in
          let ahead : by_names path entry.0 ≡ Less = subst (λ (k : Names). by_names path k ≡ Less) same low in
          none_ahead path (entry ∷ more) (and_from (is_lt (by_names path entry.0)) (below_all by_names path more) (ap is_lt ahead)
          (below path entry.0 more ahead (and_parts (below_all by_names entry.0 more) (finite.is_sorted by_names more) sorted).0))

  -- the next one is owned
  pub there : (path : Names) → next ≡ Some path → is_owned g path ≡ true
  there path at = parted path ∙ or_right (any path is.passed) (any path is.rest) (by is.rest is.first)
    where
      by : (rest : List Entry) → BeginsWith rest next left → any path rest ≡ true
      by [] first = absurd (let wrong : None ≡ Some path = sym first ∙ at in cc)
      by (entry ∷ more) first =
          let same : path ≡ entry.0 = (let some : Some path ≡ Some entry.0 = sym at ∙ first.0 in cc) in
          ap (λ (o : Ordering). is_eq o || any path more) (ap (by_names path) (sym same) ∙ tied_itself by_names-total path)

-- ---- places

-- the first one
pub place_begins : {A : Type 0} (shows : A → Entry) (g : GraphState) (r : Option A) (left : List Entry) → TakesFirst shows (finite.entries g.owned) r left → IsPlace g None (key_of (option_map shows r)) left
place_begins shows g (Some x) left takes = record { passed = []; rest = shows x ∷ left; whole = takes; last = refl; first = (refl, refl) }
place_begins shows g None left takes = record { passed = []; rest = []; whole = takes.0; last = refl; first = refl }

ends_push : (passed : List Entry) (entry : Entry) → EndsAt (passed ++ entry ∷ []) (Some entry.0)
ends_push [] entry = refl
ends_push (one ∷ []) entry = refl
ends_push (one ∷ next ∷ more) entry = ends_push (next ∷ more) entry

begins : {A : Type 0} (shows : A → Entry) (r : Option A) (rest left : List Entry) → TakesFirst shows rest r left → BeginsWith rest (key_of (option_map shows r)) left
begins shows (Some x) rest left takes = subst (λ (entries : List Entry). BeginsWith entries (Some (shows x).0) left) (sym takes) (refl, refl)
begins shows None rest left takes = subst (λ (entries : List Entry). BeginsWith entries None left) (sym takes.0) refl

-- the one behind the next path
pub place_passed : {A : Type 0} (shows : A → Entry) (g : GraphState) (before : Option Names) (path : Names) (left after : List Entry) (r : Option A) → IsPlace g before (Some path) left → TakesFirst shows left r after
    → IsPlace g (Some path) (key_of (option_map shows r)) after
place_passed shows g before path left after r is takes = by is.rest is.whole is.first
  where
    by : (rest : List Entry) → finite.entries g.owned ≡ is.passed ++ rest → BeginsWith rest (Some path) left → IsPlace g (Some path) (key_of (option_map shows r)) after
    by [] whole first = absurd (let wrong : Some path ≡ None = first in cc)
    by (entry ∷ more) whole first =
        let same : path ≡ entry.0 = (let some : Some path ≡ Some entry.0 = first.0 in cc) in
        record {
          passed = is.passed ++ entry ∷ [];
          rest = more;
          whole = whole ∙ sym (append_assoc is.passed (entry ∷ []) more);
          last = subst (λ (key : Names). EndsAt (is.passed ++ entry ∷ []) (Some key)) (sym same) (ends_push is.passed entry);
          first = begins shows r more after (subst (λ (entries : List Entry). TakesFirst shows entries r after) first.1 takes);
        }
