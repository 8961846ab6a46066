-- The changes that are needed leave what all of them leave.
use Rattle.std.proofs.Common.{◌≡◌, ◌≢◌, ℕ, Bool, true, false, cond, not, ◌&&◌, T, List, [], ◌∷◌, map, fold, filter, Option, None, Some, refl, sym, ap, subst, ◌∙◌}
use Rattle.std.specs.declared.cmp.Ordering.{Ordering}
use Rattle.std.specs.declared.cmp.Ordering.TheVariants.{Less, Equal, Greater}
use Rattle.std.specs.Ordering.{eq_by_cmp, is_eq, is_lt}
use Rattle.std.specs.Prelude.{bytes_eq}
use Rattle.std.specs.List.{AllByRecursion}
use Rattle.std.specs.List.Sorted.{IsStrictlySortedBy}
use Rattle.std.specs.Option.{option_map, option_eq}
use Rattle.std.specs.FinMap as finite
use Rattle.std.specs.FinMap.{FinMap, get, insert, empty, entries, find, is_sorted}
use Rattle.std.specs.FinMap.Entries.{same_entries, by_order, below_all}
use Rattle.std.proofs.lemmas.Cmp.{tied_itself}
use Rattle.std.specs.Cmp.Lexicographic.{bytes_decides}
use Rattle.tup_path.proofs.Maps.{entries-of_sorted}
use Rattle.tup_graph.proofs.Maps.{equal_of, by_bytes-antisymmetric}
use Rattle.std.specs.Cmp.Lexicographic.{nat_list_cmp_total}
use Rattle.tup_path.specs.Order.{by_bytes}
use Rattle.tup_record.specs.Spelling.{IsSpelled}
use Rattle.tup_table.specs.declared.change.Change.{Change}
use Rattle.tup_table.specs.declared.change.Change.TheVariants.{Put, Delete}
use Rattle.tup_table.specs.declared.entry.Entry.{Entry}
use Rattle.tup_table.specs.Entries.{Standing, IsAscending, entry_at, key_of, changed, committed}
use Rattle.tup_table.proofs.Keys.{changed_ascending, committed_ascending, after_put, after_delete, after_others}
use Rattle.tup_graph.specs.Graph.{GraphState, empty_graph}
use Rattle.tup_graph.specs.Opening.{put, Leads, IsGraphOf}
use Rattle.tup_graph.specs.Changes.{value_at, value_after, last_changes, changes_it, needed}

both : (a b : Bool) → T a → T b → T (a && b)
both true b p q = q
both false b p q = absurd p

first_part : (a b : Bool) → T (a && b) → T a
first_part true b p = tt
first_part false b p = absurd p

second_part : (a b : Bool) → T (a && b) → T b
second_part true b p = p
second_part false b p = absurd p

less_of : (o : Ordering) → T (is_lt o) → o ≡ Less
less_of Less p = refl
less_of Equal p = absurd p
less_of Greater p = absurd p

-- ---- values tell which graph entries stand for
abbrev Plain : Type 0
Plain = List (List ℕ × List ℕ)

abbrev plain : Standing → Plain
plain [] = []
plain (e ∷ es) = (e.0, e.1.value) ∷ plain es

leads_plain : (es fs : Standing) → plain es ≡ plain fs → (g end : GraphState) → Leads g es end → Leads g fs end
leads_plain [] [] same g end lead = lead
leads_plain [] (f ∷ fs) same g end lead = absurd (cc)
leads_plain (e ∷ es) [] same g end lead = absurd (cc)
leads_plain (e ∷ es) (f ∷ fs) same g end lead =
    let head : ◌≡◌ {A = List ℕ × List ℕ} (e.0, e.1.value) (f.0, f.1.value) = cc in
    let tail : plain es ≡ plain fs = cc in
    (lead.0, (subst (λ (x : List ℕ × List ℕ). IsSpelled x.0 x.1 lead.0) head lead.1.0, lead.1.1), leads_plain es fs tail (put g lead.0) end lead.2)

find_plain : (es : Standing) (q : List ℕ) → find by_bytes q (plain es) ≡ value_at es q
find_plain [] q = refl
find_plain (e ∷ es) q =
    elim (eq_by_cmp by_bytes q e.0) as (λ b. cond b (Some e.1.value) (find by_bytes q (plain es)) ≡ option_map (λ (x : Entry). x.value) (cond b (Some e.1) (entry_at es q))) [
      | true ↦ refl
      | false ↦ find_plain es q
    ]

below_plain : (k : List ℕ) (es : Standing) → AllByRecursion (λ (later : List ℕ × Entry). by_bytes k later.0 ≡ Less) es → T (below_all by_bytes k (plain es))
below_plain k [] all = tt
below_plain k (e ∷ es) all = rw all.0 (below_plain k es all.1)

sorted_plain : (es : Standing) → IsAscending es → T (is_sorted by_bytes (plain es))
sorted_plain [] up = tt
sorted_plain (e ∷ es) up = both (below_all by_bytes e.0 (plain es)) (is_sorted by_bytes (plain es)) (below_plain e.0 es up.0) (sorted_plain es up.1)

-- entries with the same values stand for the same graph
pub graph_by_values : (es fs : Standing) (g : GraphState) → IsAscending es → IsAscending fs → ((key : List ℕ) → value_at es key ≡ value_at fs key) → IsGraphOf es g → IsGraphOf fs g
graph_by_values es fs g up other same is =
    leads_plain es fs (same_entries by_bytes nat_list_cmp_total by_bytes-antisymmetric (plain es) (plain fs) (sorted_plain es up) (sorted_plain fs other)
    (λ q. find_plain es q ∙ same q ∙ sym (find_plain fs q))) empty_graph g is

-- ---- the value under a key
same_key : (k q : List ℕ) → eq_by_cmp by_bytes k q ≡ true → k ≡ q
same_key k q is = by_bytes-antisymmetric k q (equal_of (by_bytes k q) is)

other_key : (k q : List ℕ) → eq_by_cmp by_bytes k q ≡ false → k ≢ q
other_key k q is same = absurd (let no : true ≡ false = sym (ap is_eq (tied_itself nat_list_cmp_total k)) ∙ ap (eq_by_cmp by_bytes k) same ∙ is in cc)

-- what stands once a change of a key is made, if there is one
abbrev after : Option Change → Option (List ℕ) → Option (List ℕ)
after (Some change) before = value_after change
after None before = before

-- a change that passes a test
abbrev passed : (Change → Bool) → Option Change → Option Change
passed test (Some change) = cond (test change) (Some change) None
passed test None = None

abbrev one_later : FinMap by_bytes Change → Change → FinMap by_bytes Change
one_later last change = insert last (key_of change) change

module _ (origin : ℕ) (k : List ℕ) where
  value_changed : (es : Standing) (c : Change) → IsAscending es → value_at (changed origin es c) k ≡ cond (eq_by_cmp by_bytes k (key_of c)) (value_after c) (value_at es k)
  value_changed es c up = by (eq_by_cmp by_bytes k (key_of c)) refl
    where
      here : (c : Change) → value_at (changed origin es c) (key_of c) ≡ value_after c
      here (Put key value) = ap (option_map (λ (e : Entry). e.value)) (after_put es origin key value)
      here (Delete key) = ap (option_map (λ (e : Entry). e.value)) (after_delete es origin key up)

      by : (b : Bool) → eq_by_cmp by_bytes k (key_of c) ≡ b → value_at (changed origin es c) k ≡ cond b (value_after c) (value_at es k)
      by true is = ap (value_at (changed origin es c)) (same_key k (key_of c) is) ∙ here c
      by false is = ap (option_map (λ (e : Entry). e.value)) (after_others es origin c k (other_key k (key_of c) is))

  after_either : (b : Bool) (c : Change) (found : Option Change) (before now : Option (List ℕ)) → now ≡ after found before → cond b (value_after c) now ≡ after (cond b (Some c) found) before
  after_either true c found before now is = refl
  after_either false c found before now is = is

  all_values : (cs : List Change) (es : Standing) (last : FinMap by_bytes Change) (before : Option (List ℕ)) → IsAscending es → value_at es k ≡ after (get last k) before
      → value_at (committed origin es cs) k ≡ after (get (fold one_later last cs) k) before
  all_values [] es last before up is = is
  all_values (c ∷ cs) es last before up is =
      all_values cs (changed origin es c) (one_later last c) before (changed_ascending origin es c up)
      (value_changed es c up ∙ after_either (eq_by_cmp by_bytes k (key_of c)) c (get last k) before (value_at es k) is
      ∙ ap (λ (o : Option Change). after o before) (sym (finite.get-insert nat_list_cmp_total last (key_of c) c k)))

-- ---- the last changes, in the order of their keys
abbrev IsKeyed : List ℕ × Change → Type 0
IsKeyed one = one.0 ≡ key_of one.1

keyed_put : (k : List ℕ) (c : Change) (es : List (List ℕ × Change)) → k ≡ key_of c → AllByRecursion IsKeyed es → AllByRecursion IsKeyed (finite.put by_bytes k c es)
keyed_put k c [] one all = (one, tt)
keyed_put k c (e ∷ es) one all =
    (elim (by_bytes k e.0) as (λ o. by_bytes k e.0 ≡ o → AllByRecursion IsKeyed (by_order o ((k, c) ∷ e ∷ es) ((e.0, c) ∷ es) (e ∷ finite.put by_bytes k c es))) [
      | Less ↦ λ o. (one, all)
      | Equal ↦ λ o. (sym (by_bytes-antisymmetric k e.0 o) ∙ one, all.1)
      | Greater ↦ λ o. (all.0, keyed_put k c es one all.1)
    ]) refl

keyed_all : (cs : List Change) (last : FinMap by_bytes Change) → AllByRecursion IsKeyed (entries last) → AllByRecursion IsKeyed (entries (fold one_later last cs))
keyed_all [] last all = all
keyed_all (c ∷ cs) last all =
    keyed_all cs (one_later last c) (subst (AllByRecursion IsKeyed) (sym (finite.entries-insert nat_list_cmp_total last (key_of c) c)) (keyed_put (key_of c) c (entries last) refl all))

found_keyed : (k : List ℕ) (es : List (List ℕ × Change)) → AllByRecursion IsKeyed es → (c : Change) → find by_bytes k es ≡ Some c → k ≡ key_of c
found_keyed k [] all c found = absurd (cc)
found_keyed k (e ∷ es) all c found =
    (elim (eq_by_cmp by_bytes k e.0) as (λ b. eq_by_cmp by_bytes k e.0 ≡ b → cond b (Some e.1) (find by_bytes k es) ≡ Some c → k ≡ key_of c) [
      | true ↦ λ is same. (let one : e.1 ≡ c = cc in same_key k e.0 is ∙ all.0 ∙ ap key_of one)
      | false ↦ λ is same. found_keyed k es all.1 c same
    ]) refl found

none_below : (k first : List ℕ) (es : List (List ℕ × Change)) → k ≡ first → T (below_all by_bytes first es) → find by_bytes k es ≡ None
none_below k first [] same below = refl
none_below k first (e ∷ es) same below =
    let less : by_bytes first e.0 ≡ Less = less_of (by_bytes first e.0) (first_part (is_lt (by_bytes first e.0)) (below_all by_bytes first es) below) in
    rw (ap (λ (t : List ℕ). by_bytes t e.0) same ∙ less) (none_below k first es same (second_part (is_lt (by_bytes first e.0)) (below_all by_bytes first es) below))

-- ---- what the changes that pass a test leave
module _ (origin : ℕ) (k : List ℕ) (test : Change → Bool) where
  passed_values : (ps : List (List ℕ × Change)) → AllByRecursion IsKeyed ps → T (is_sorted by_bytes ps) → (es : Standing) → IsAscending es
      → value_at (committed origin es (filter test (map (λ (p : List ℕ × Change). p.1) ps))) k ≡ after (passed test (find by_bytes k ps)) (value_at es k)
  passed_values [] keyed sorted es up = refl
  passed_values (p ∷ ps) keyed sorted es up =
      let rest = filter test (map (λ (q : List ℕ × Change). q.1) ps) in
      let below = first_part (below_all by_bytes p.0 ps) (is_sorted by_bytes ps) sorted in
      let more = second_part (below_all by_bytes p.0 ps) (is_sorted by_bytes ps) sorted in
      (elim (test p.1) as (λ t. test p.1 ≡ t → value_at (committed origin es (cond t (p.1 ∷ rest) rest)) k ≡ after (passed test (cond (eq_by_cmp by_bytes k p.0) (Some p.1) (find by_bytes k ps))) (value_at es k)) [
        | true ↦ λ passes. passed_values ps keyed.1 more (changed origin es p.1) (changed_ascending origin es p.1 up)
            ∙ ap (after (passed test (find by_bytes k ps))) (value_changed origin k es p.1 up ∙ ap (λ (t : List ℕ). cond (eq_by_cmp by_bytes k t) (value_after p.1) (value_at es k)) (sym keyed.0))
            ∙ taken (eq_by_cmp by_bytes k p.0) refl passes below
        | false ↦ λ fails. passed_values ps keyed.1 more es up ∙ left (eq_by_cmp by_bytes k p.0) refl fails below
      ]) refl
    where
      taken : (b : Bool) → eq_by_cmp by_bytes k p.0 ≡ b → test p.1 ≡ true → T (below_all by_bytes p.0 ps)
          → after (passed test (find by_bytes k ps)) (cond b (value_after p.1) (value_at es k)) ≡ after (passed test (cond b (Some p.1) (find by_bytes k ps))) (value_at es k)
      taken true is passes below = ap (λ (o : Option Change). after (passed test o) (value_after p.1)) (none_below k p.0 ps (same_key k p.0 is) below) ∙ rw passes refl
      taken false is passes below = refl

      left : (b : Bool) → eq_by_cmp by_bytes k p.0 ≡ b → test p.1 ≡ false → T (below_all by_bytes p.0 ps)
          → after (passed test (find by_bytes k ps)) (value_at es k) ≡ after (passed test (cond b (Some p.1) (find by_bytes k ps))) (value_at es k)
      left true is fails below = ap (λ (o : Option Change). after (passed test o) (value_at es k)) (none_below k p.0 ps (same_key k p.0 is) below) ∙ rw fails refl
      left false is fails below = refl

-- what changes nothing may be left out
same_values : (a b : Option (List ℕ)) → option_eq bytes_eq a b ≡ true → a ≡ b
same_values None None is = refl
same_values None (Some b) is = cc
same_values (Some a) None is = cc
same_values (Some a) (Some b) is = ap Some ((bytes_decides a b).0 is)

negated : (b : Bool) → not b ≡ false → b ≡ true
negated true is = refl
negated false is = cc

module _ (before : Standing) (k : List ℕ) where
  left_out : (found : Option Change) → ((c : Change) → found ≡ Some c → k ≡ key_of c) → after (passed (changes_it before) found) (value_at before k) ≡ after found (value_at before k)
  left_out None keyed = refl
  left_out (Some c) keyed =
      (elim (changes_it before c) as (λ t. changes_it before c ≡ t → after (cond t (Some c) None) (value_at before k) ≡ value_after c) [
        | true ↦ λ is. refl
        | false ↦ λ is. ap (value_at before) (keyed c refl) ∙ same_values (value_at before (key_of c)) (value_after c) (negated (option_eq bytes_eq (value_at before (key_of c)) (value_after c)) is)
      ]) refl

pub needed_read : (es : Standing) (cs : List Change) (origin : ℕ) (g : GraphState) → IsAscending es → IsGraphOf (committed origin es cs) g → IsGraphOf (committed origin es (needed es cs)) g
unfolding IsStrictlySortedBy
needed_read es cs origin g up is =
    graph_by_values (committed origin es cs) (committed origin es (needed es cs)) g (committed_ascending origin es cs up) (committed_ascending origin es (needed es cs) up) (λ k.
    let keyed = keyed_all cs empty (subst (AllByRecursion IsKeyed) (sym no_entries) tt) in
    all_values origin k cs es empty (value_at es k) up (nothing_yet k)
    ∙ ap (λ (o : Option Change). after o (value_at es k)) (finite.get-entries (last_changes cs) k)
    ∙ sym (left_out es k (find by_bytes k (entries (last_changes cs))) (found_keyed k (entries (last_changes cs)) keyed))
    ∙ sym (passed_values origin k (changes_it es) (entries (last_changes cs)) keyed (finite.entries_sorted (last_changes cs)) es up)) is
  where
    no_entries : entries (empty {X = Change} {R = by_bytes}) ≡ []
    no_entries = entries-of_sorted nat_list_cmp_total [] tt

    nothing_yet : (k : List ℕ) → value_at es k ≡ after (get (empty {X = Change} {R = by_bytes}) k) (value_at es k)
    nothing_yet k = ap (λ (o : Option Change). after o (value_at es k)) (sym (finite.get-empty by_bytes k))
