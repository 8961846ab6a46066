-- What is found after a path was given to a key, and gifts that are kept as sets.
use Rattle.std.proofs.Common.{◌≡◌, ◌||◌, ◌&&◌, Bool, true, false, cond, List, [], ◌∷◌, ◌++◌, map, option_map, Option, Some, None, Result, Ok, Err, OnOk, is_some, unwrap_or, refl, sym, ap, subst, ◌∙◌}
use Rattle.std.specs.BTreeSet.{BTreeSet, insert_key}
use Rattle.std.specs.Cmp.{IsEquivalence, on_equiv}
use Rattle.std.specs.HashMap.Eq.{lookup_congr}
use Rattle.std.specs.Map.{lookup, set_value}
use Rattle.std.specs.Option.{option_map_or}
use Rattle.std.specs.Ordering.{match_ordering}
use Rattle.std.specs.declared.cmp.Ordering.TheVariants.{Less, Equal, Greater}
use Rattle.std.proofs.lemmas.Cmp.{and_equiv, lists_equiv, nat_list_eq_equiv}
use Rattle.std.proofs.lemmas.List.{map-append}
use Rattle.std.proofs.lemmas.Map.{lookup-set_value}
use Rattle.std.proofs.lemmas.Map.Made.{lookup-map_values}
use Rattle.std.proofs.lemmas.Map.Steps.{set_value_same}
use Rattle.indexmap.specs.IndexMap.{IndexMap, get, insert_entry}
use Rattle.indexmap.proofs.CallerLemmas.{insert_entry-new}
use Rattle.tup_path.specs.Name.{Names}
use Rattle.tup_path.specs.Order.{by_names, same_path, by_names-antisymmetric}
use Rattle.tup_rule.specs.Rule.{among}
use Rattle.tup_rule.specs.declared.draft.GroupRef.{GroupRef}
use Rattle.tup_macro.specs.Gifts.{GiftsTo, same_group, members_of, with_gift, IsOneMore}
use Rattle.tup_macro.proofs.Lookups.{map-set_value, lookup-last}

-- being the same group is an equivalence
pub same_group-equiv : IsEquivalence same_group
same_group-equiv = and_equiv (on_equiv (λ (group : GroupRef). group.dir) (lists_equiv nat_list_eq_equiv)) (on_equiv (λ (group : GroupRef). group.name) nat_list_eq_equiv)

-- ---- a path at its place among the members
or_again : (a b : Bool) → (a || b) ≡ (a || (a || b))
or_again true b = refl
or_again false b = refl

or_swap : (a b c : Bool) → (a || (b || c)) ≡ (b || (a || c))
or_swap true true c = refl
or_swap true false c = refl
or_swap false b c = refl

among-insert_key : (one path : Names) (members : List Names) → among one (insert_key by_names members path) ≡ (same_path one path || among one members)
among-insert_key one path [] = refl
among-insert_key one path (first ∷ more) =
    (elim (by_names path first) as (λ o. by_names path first ≡ o → among one (match_ordering o (path ∷ first ∷ more) (first ∷ more) (first ∷ insert_key by_names more path)) ≡ (same_path one path || among one (first ∷ more))) [
      | Less ↦ λ e. refl
      | Equal ↦ λ e. rw (by_names-antisymmetric path first e) (or_again (same_path one first) (among one more))
      | Greater ↦ λ e. ap (λ b. same_path one first || b) (among-insert_key one path more) ∙ or_swap (same_path one first) (same_path one path) (among one more)
    ]) refl

-- ---- what each look-up finds
module _ {K : Type 0} {eq : K → K → Bool} (laws : IsEquivalence eq) where
  members_after : (gifts : GiftsTo K) (key : K) (path : Names) (found : Option (List Names)) → members_of eq gifts key ≡ found → (other : K) →
      members_of eq (with_gift eq gifts key path) other ≡ cond (eq key other) (Some (insert_key by_names (unwrap_or found []) path)) (members_of eq gifts other)
  members_after gifts key path None absent other = rw absent (lookup-last laws gifts key other (path ∷ []) absent)
  members_after gifts key path (Some members) there other =
      rw there (lookup-set_value laws (eq key) (laws.congr key) other (insert_key by_names members path) gifts (rw there refl))

  given_after : (b : Bool) (one path : Names) (before at : Option (List Names)) → (b ≡ true → before ≡ at) →
      option_map_or (among one) (cond b (Some (insert_key by_names (unwrap_or at []) path)) before) false ≡ ((b && same_path one path) || option_map_or (among one) before false)
  given_after true one path before at same = rw (same refl) (by at)
    where
      by : (found : Option (List Names)) → among one (insert_key by_names (unwrap_or found []) path) ≡ (same_path one path || option_map_or (among one) found false)
      by None = refl
      by (Some members) = among-insert_key one path members
  given_after false one path before at same = refl

  there_after : (b : Bool) (new : List Names) (before : Option (List Names)) → is_some (cond b (Some new) before) ≡ (b || is_some before)
  there_after true new before = refl
  there_after false new before = refl

  -- one gift more is given, and nothing else changes
  one_more : (gifts : GiftsTo K) (key : K) (path : Names) → IsOneMore eq gifts (with_gift eq gifts key path) key path
  one_more gifts key path = record {
    paths = λ other one.
        ap (λ found. option_map_or (among one) found false) (members_after gifts key path (members_of eq gifts key) refl other)
        ∙ given_after (eq key other) one path (members_of eq gifts other) (members_of eq gifts key) (λ e. sym (lookup_congr eq laws.congr gifts key other e));
    keys = λ other.
        ap is_some (members_after gifts key path (members_of eq gifts key) refl other) ∙ there_after (eq key other) _ (members_of eq gifts other);
  }

  -- the same of a call that gives
  pub one_more-given : {X E : Type 0} (r : Result X E) (before now : GiftsTo K) (key : K) (path : Names) → OnOk r (now ≡ with_gift eq before key path) → OnOk r (IsOneMore eq before now key path)
  one_more-given (Ok _) before now key path given = subst (λ (gifts : GiftsTo K). IsOneMore eq before gifts key path) (sym given) (one_more before key path)
  one_more-given (Err _) before now key path given = tt

-- ---- gifts kept as sets
abbrev pub seen : {K : Type 0} → List (K × BTreeSet Names) → GiftsTo K
seen {K} kept = map (λ (e : K × BTreeSet Names). (e.0, e.1.keys)) kept

module _ {K : Type 0} (eq : K → K → Bool) (key : K) (kept : List (K × BTreeSet Names)) where
  -- what the sets hold is what was given
  pub members-seen : (gifts : GiftsTo K) (found : Option (BTreeSet Names)) → seen kept ≡ gifts → found ≡ lookup (eq key) kept → members_of eq gifts key ≡ option_map (λ (s : BTreeSet Names). s.keys) found
  members-seen gifts found are there =
      ap (λ (table : GiftsTo K). members_of eq table key) (sym are) ∙ lookup-map_values (λ (s : BTreeSet Names). s.keys) (eq key) kept ∙ ap (option_map (λ (s : BTreeSet Names). s.keys)) (sym there)

  -- a key to which nothing was given has no set
  pub absent-seen : (gifts : GiftsTo K) → seen kept ≡ gifts → members_of eq gifts key ≡ None → lookup (eq key) kept ≡ None
  absent-seen gifts are none = by (lookup (eq key) kept) (sym (members-seen gifts (lookup (eq key) kept) are refl) ∙ none)
    where
      by : (found : Option (BTreeSet Names)) → option_map (λ (s : BTreeSet Names). s.keys) found ≡ None → found ≡ None
      by None e = refl
      by (Some members) e = absurd (cc)

  -- a set that stays the same set
  pub seen-kept : (members more : BTreeSet Names) → lookup (eq key) kept ≡ Some members → more.keys ≡ members.keys → seen (set_value (eq key) kept more) ≡ seen kept
  seen-kept members more there same =
      map-set_value (eq key) (λ (s : BTreeSet Names). s.keys) kept more
      ∙ set_value_same (eq key) (seen kept) more.keys (members-seen (seen kept) (Some members) refl (sym there) ∙ ap (λ (keys : List Names). Some keys) (sym same))

  -- a path that comes into the set of its key
  pub seen-given : (members more : BTreeSet Names) (path : Names) → lookup (eq key) kept ≡ Some members → more.keys ≡ insert_key by_names members.keys path → seen (set_value (eq key) kept more) ≡ with_gift eq (seen kept) key path
  seen-given members more path there one =
      let known : members_of eq (seen kept) key ≡ Some members.keys = members-seen (seen kept) (Some members) refl (sym there) in
      map-set_value (eq key) (λ (s : BTreeSet Names). s.keys) kept more ∙ ap (set_value (eq key) (seen kept)) one ∙ rw known refl

-- the set behind a reference, as its keys
pub seen-shown : {R : Type 0} (now : R → BTreeSet Names) (found : Option R) → option_map (λ (r : R). (now r).keys) found ≡ option_map (λ (s : BTreeSet Names). s.keys) (option_map now found)
seen-shown now None = refl
seen-shown now (Some set) = refl

-- a key that comes last with its first path
pub seen-begun : {K S : Type 0} (eq : K → K → Bool) (kept : IndexMap K (BTreeSet Names) S) (gifts : GiftsTo K) (key : K) (first : BTreeSet Names) (path : Names) → seen kept.entries ≡ gifts →
    get eq kept key ≡ None → first.keys ≡ path ∷ [] → seen (insert_entry eq kept.entries key first) ≡ gifts ++ (key, path ∷ []) ∷ []
seen-begun {K} eq kept gifts key first path are absent one =
    ap seen (insert_entry-new eq kept key first absent)
    ∙ map-append (λ (e : K × BTreeSet Names). (e.0, e.1.keys)) kept.entries ((key, first) ∷ [])
    ∙ ap (λ (keys : List Names). seen kept.entries ++ (key, keys) ∷ []) one
    ∙ ap (λ (table : GiftsTo K). table ++ (key, path ∷ []) ∷ []) are
