-- The keys of records are short.
use Rattle.std.proofs.Common.{◌≡◌, ℕ, ◌*◌, ◌≤◌, Bool, true, false, cond, List, [], ◌∷◌, length, map, fold, filter, All, refl, sym, ap, subst, ◌∙◌, length-append, arith}
use Rattle.std.specs.FinMap as finite
use Rattle.std.specs.FinMap.{FinMap, insert, empty, entries}
use Rattle.std.specs.FinMap.Entries.{by_order}
use Rattle.std.specs.Cmp.Lexicographic.{nat_list_cmp_total}
use Rattle.std.specs.Int.{w32, to_be_bytes}
use Rattle.std.specs.List.{flat_map, AllByRecursion}
use Rattle.std.specs.List.Sorted.{IsStrictlySortedBy}
use Rattle.std.specs.declared.cmp.Ordering.TheVariants.{Less, Equal, Greater}
use Rattle.std.proofs.lemmas.List.Concat.{flat_map-cons}
use Rattle.std.proofs.lemmas.List.Elements.{recursion_from_All, All-from_recursion}
use Rattle.tup_path.proofs.Maps.{entries-of_sorted}
use Rattle.tup_path.specs.Name.{Names, IsPath, IsVisibleName}
use Rattle.tup_path.specs.Order.{by_bytes}
use Rattle.tup_field.specs.Values.{name, path}
use Rattle.tup_record.specs.Spelling.{Fits, key_of as record_key}
use Rattle.tup_record.specs.declared.record.Record.{Record}
use Rattle.tup_record.specs.declared.record.Record.TheVariants.{Seen, Reading, Rule, Run, Owned, Create, Modify}
use Rattle.tup_table.specs.Appending.{HasShortKey}
use Rattle.tup_table.specs.Entries.{Standing, key_of}
use Rattle.tup_table.specs.declared.change.Change.{Change}
use Rattle.tup_graph.specs.Changes.{last_changes, changes_it, needed}
use Rattle.tup_graph.specs.Edits.{change_of, HasSpelling}
use Rattle.tup_graph.specs.declared.edit.Edit.{Edit}
use Rattle.tup_graph.specs.declared.edit.Edit.TheVariants.{Put, Remove}

names_short : (p : Names) → AllByRecursion IsVisibleName p → length (flat_map name.spelling p) ≤ 256 * length p
names_short [] all = omega arith
names_short (n ∷ p) all =
    let short = all.0.not_long in
    omega (arith, ap length (flat_map-cons name.spelling n p) ∙ length-append (name.spelling n) (flat_map name.spelling p), length-append (length n ∷ []) n, names_short p all.1)

path_short : (p : Names) → IsPath p → length (path.spelling p) ≤ 8193
path_short p is =
    let depth = is.depth in
    omega (arith, names_short p (recursion_from_All IsVisibleName p is.names))

number_short : (mark n : ℕ) → length (mark ∷ to_be_bytes w32 n) ≤ 65535
number_short mark n = let four : length (to_be_bytes w32 n) ≡ 4 = refl in omega arith

short_key : (r : Record) → Fits r → length (record_key r) ≤ 65535
short_key (Seen p s) fits = omega (arith, path_short p fits.0)
short_key (Reading dir r) fits = omega (arith, path_short dir fits.0)
short_key (Rule n place r) fits = number_short 3 n
short_key (Run n r) fits = number_short 4 n
short_key (Owned p maker s) fits = omega (arith, path_short p fits.0)
short_key (Create dir) fits = omega (arith, path_short dir fits.0)
short_key (Modify n) fits = number_short 7 n

short_change : (e : Edit) → HasSpelling e → HasShortKey (change_of e)
short_change (Put r) fits = short_key r fits
short_change (Remove r) fits = short_key r fits

short_changes : (edits : List Edit) → AllByRecursion HasSpelling edits → AllByRecursion HasShortKey (map change_of edits)
short_changes [] all = tt
short_changes (e ∷ edits) all = (short_change e all.0, short_changes edits all.1)

-- ---- the last changes, and those that are needed
abbrev IsShort : List ℕ × Change → Type 0
IsShort one = HasShortKey one.1

abbrev one_later : FinMap by_bytes Change → Change → FinMap by_bytes Change
one_later last change = insert last (key_of change) change

short_put : (k : List ℕ) (c : Change) (es : List (List ℕ × Change)) → HasShortKey c → AllByRecursion IsShort es → AllByRecursion IsShort (finite.put by_bytes k c es)
short_put k c [] one all = (one, tt)
short_put k c (e ∷ es) one all =
    elim (by_bytes k e.0) as (λ o. AllByRecursion IsShort (by_order o ((k, c) ∷ e ∷ es) ((e.0, c) ∷ es) (e ∷ finite.put by_bytes k c es))) [
      | Less ↦ (one, all)
      | Equal ↦ (one, all.1)
      | Greater ↦ (all.0, short_put k c es one all.1)
    ]

short_last : (cs : List Change) (last : FinMap by_bytes Change) → AllByRecursion HasShortKey cs → AllByRecursion IsShort (entries last) → AllByRecursion IsShort (entries (fold one_later last cs))
short_last [] last short all = all
short_last (c ∷ cs) last short all =
    short_last cs (one_later last c) short.1 (subst (AllByRecursion IsShort) (sym (finite.entries-insert nat_list_cmp_total last (key_of c) c)) (short_put (key_of c) c (entries last) short.0 all))

short_kept : (test : Change → Bool) (es : List (List ℕ × Change)) → AllByRecursion IsShort es → AllByRecursion HasShortKey (filter test (map (λ (e : List ℕ × Change). e.1) es))
short_kept test [] all = tt
short_kept test (e ∷ es) all =
    let rest = filter test (map (λ (e : List ℕ × Change). e.1) es) in
    elim (test e.1) as (λ t. AllByRecursion HasShortKey (cond t (e.1 ∷ rest) rest)) [
      | true ↦ (all.0, short_kept test es all.1)
      | false ↦ short_kept test es all.1
    ]

pub needed_short : (es : Standing) (edits : List Edit) → All HasSpelling edits → All HasShortKey (needed es (map change_of edits))
unfolding IsStrictlySortedBy
needed_short es edits spelled =
    All-from_recursion HasShortKey (needed es (map change_of edits))
    (short_kept (changes_it es) (entries (last_changes (map change_of edits)))
    (short_last (map change_of edits) empty (short_changes edits (recursion_from_All HasSpelling edits spelled)) (subst (AllByRecursion IsShort) (sym no_entries) tt)))
  where
    no_entries : entries (empty {X = Change} {R = by_bytes}) ≡ []
    no_entries = entries-of_sorted nat_list_cmp_total [] tt
