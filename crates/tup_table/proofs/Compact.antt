-- What compacting leaves of entries: the same keys with the same values, in a commit of so many bytes.
use Rattle.std.proofs.Common.{◌≡◌, ℕ, zero, suc, true, false, cond, ◌+◌, ◌≤◌, List, [], ◌∷◌, ◌++◌, length, map, refl, sym, ap, ◌∙◌, append_assoc, append-nil, length-append, arith}
use Rattle.std.proofs.lemmas.Cmp.{nat_list_cmp_total}
use Rattle.std.proofs.lemmas.List.Concat.{flat_map-cons}
use Rattle.std.specs.BTreeMap.{insert_entry, is_at}
use Rattle.std.specs.Map.{remove_entry}
use Rattle.std.specs.List.{AllByRecursion}
use Rattle.std.specs.Ordering.{match_ordering, ordering_reverse}
use Rattle.std.specs.declared.cmp.Ordering.TheVariants.{Less, Equal, Greater}
use Rattle.tup_path.specs.Order.{by_bytes}
use Rattle.tup_table.specs.Compact.{EntriesFit, values_of, HasSameValues, moved, put_of, puts, at_once, compacted, compact_area, size_of, live_by, live_size}
use Rattle.tup_table.specs.Entries.{Standing, IsAscending, changed, committed, left_from, entries_of}
use Rattle.tup_table.specs.Spelling.{IsSized, ChangeFits, payload, ChangesFit, commit, CommitFits, blocks}
use Rattle.tup_table.specs.Store.{header, most_live}
use Rattle.tup_table.specs.declared.change.Change.{Change}
use Rattle.tup_table.specs.declared.change.Change.TheVariants.{Put, Delete}
use Rattle.tup_table.specs.declared.entry.Entry.{Entry}
use Rattle.tup_table.proofs.Apart.{all_more}
use Rattle.tup_table.proofs.Appends.{length-put, length-payload, length-appending}
use Rattle.tup_table.proofs.Fronts.{block}

-- ---- keys with their values
pub moved_values : (origin : ℕ) (es : Standing) → values_of (moved origin es) ≡ values_of es
moved_values origin [] = refl
moved_values origin (e ∷ es) = ap (λ (t : List (List ℕ × List ℕ)). (e.0, e.1.value) ∷ t) (moved_values origin es)

pub compacted_same : (one other : Standing) → HasSameValues one other → compacted one ≡ compacted other
compacted_same one other same = ap (λ (vs : List (List ℕ × List ℕ)). at_once (map put_of vs)) same

-- ---- changes leave the same values, wherever these were put
abbrev Values : Type 0
Values = List (List ℕ × List ℕ)

values_put : (es : Standing) (k : List ℕ) (v : Entry) → values_of (insert_entry by_bytes es k v) ≡ insert_entry by_bytes (values_of es) k v.value
values_put [] k v = refl
values_put (e ∷ es) k v =
    elim (by_bytes k e.0) as (λ o. values_of (match_ordering o ((k, v) ∷ e ∷ es) ((e.0, v) ∷ es) (e ∷ insert_entry by_bytes es k v))
    ≡ match_ordering o ((k, v.value) ∷ (e.0, e.1.value) ∷ values_of es) ((e.0, v.value) ∷ values_of es) ((e.0, e.1.value) ∷ insert_entry by_bytes (values_of es) k v.value)) [
      | Less ↦ refl
      | Equal ↦ refl
      | Greater ↦ ap (λ (t : Values). (e.0, e.1.value) ∷ t) (values_put es k v)
    ]

values_deleted : (es : Standing) (k : List ℕ) → values_of (remove_entry (is_at (by_bytes k)) es) ≡ remove_entry (is_at (by_bytes k)) (values_of es)
values_deleted [] k = refl
values_deleted (e ∷ es) k =
    elim (is_at (by_bytes k) e.0) as (λ t. values_of (cond t es (e ∷ remove_entry (is_at (by_bytes k)) es)) ≡ cond t (values_of es) ((e.0, e.1.value) ∷ remove_entry (is_at (by_bytes k)) (values_of es))) [
      | true ↦ refl
      | false ↦ ap (λ (t : Values). (e.0, e.1.value) ∷ t) (values_deleted es k)
    ]

changed_values : (origin place : ℕ) (one other : Standing) (c : Change) → HasSameValues one other → HasSameValues (changed origin one c) (changed place other c)
changed_values origin place one other (Put k v) same =
    values_put one k (record { value = v; origin = origin }) ∙ ap (λ (vs : Values). insert_entry by_bytes vs k v) same
    ∙ sym (values_put other k (record { value = v; origin = place }))
changed_values origin place one other (Delete k) same =
    values_deleted one k ∙ ap (λ (vs : Values). remove_entry (is_at (by_bytes k)) vs) same ∙ sym (values_deleted other k)

pub committed_values : (origin place : ℕ) (one other : Standing) (cs : List Change) → HasSameValues one other → HasSameValues (committed origin one cs) (committed place other cs)
committed_values origin place one other [] same = same
committed_values origin place one other (c ∷ cs) same =
    committed_values origin place (changed origin one c) (changed place other c) cs (changed_values origin place one other c same)

-- ---- the entries that one commit of all of them leaves
abbrev Before : List ℕ → Standing → Type 0
Before key es = AllByRecursion (λ (e : List ℕ × Entry). by_bytes e.0 key ≡ Less) es

put_last : (es : Standing) (k : List ℕ) (v : Entry) → Before k es → insert_entry by_bytes es k v ≡ es ++ (k, v) ∷ []
put_last [] k v before = refl
put_last (e ∷ es) k v before =
    let behind : by_bytes k e.0 ≡ Greater = nat_list_cmp_total.antisymm k e.0 ∙ ap ordering_reverse before.0 in
    rw behind (ap (λ (t : Standing). e ∷ t) (put_last es k v before.1))

-- entries come before others
abbrev AllBefore : Standing → Standing → Type 0
AllBefore done [] = Unit {0}
AllBefore done (e ∷ es) = Before e.0 done × AllBefore done es

before_more : (done : Standing) (k : List ℕ) (v : Entry) (es : Standing) → AllBefore done es → AllByRecursion (λ (later : List ℕ × Entry). by_bytes k later.0 ≡ Less) es → AllBefore (done ++ (k, v) ∷ []) es
before_more done k v [] before below = tt
before_more done k v (e ∷ es) before below =
    (all_more (λ (d : List ℕ × Entry). by_bytes d.0 e.0 ≡ Less) done (k, v) before.0 below.0, before_more done k v es before.1 below.1)

committed_puts : (origin : ℕ) (done es : Standing) → IsAscending es → AllBefore done es → committed origin done (puts es) ≡ done ++ moved origin es
committed_puts origin done [] up before = sym (append-nil done)
committed_puts origin done (e ∷ es) up before =
    let put : Entry = record { value = e.1.value; origin = origin } in
    ap (λ (s : Standing). committed origin s (puts es)) (put_last done e.0 put before.0)
    ∙ committed_puts origin (done ++ (e.0, put) ∷ []) es up.1 (before_more done e.0 put es before.1 up.0)
    ∙ append_assoc done ((e.0, put) ∷ []) (moved origin es)

nothing_before : (es : Standing) → AllBefore [] es
nothing_before [] = tt
nothing_before (e ∷ es) = (tt, nothing_before es)

pub compacted_entries : (es : Standing) → IsAscending es → entries_of (compacted es) ≡ moved 17 es
compacted_entries [] up = refl
compacted_entries (e ∷ es) up = committed_puts 17 [] (e ∷ es) up (nothing_before (e ∷ es))

pub compacted_values : (es : Standing) → IsAscending es → HasSameValues (entries_of (compacted es)) es
compacted_values es up = ap values_of (compacted_entries es up) ∙ moved_values 17 es

-- a store that is compacted once more
pub compacted_again : (es : Standing) → IsAscending es → compacted (entries_of (compacted es)) ≡ compacted es
compacted_again es up = compacted_same (entries_of (compacted es)) es (compacted_values es up)

-- ---- sizes
pub length-puts : (es : Standing) → length (payload (puts es)) ≡ size_of es
length-puts [] = refl
length-puts (e ∷ es) = omega (arith, length-payload (Put e.0 e.1.value) (puts es), length-put e.0 e.1.value, length-puts es)

-- entries that take bytes need a commit
pub live_more : (size : ℕ) → 1 ≤ size → live_by size ≡ 23 + size
live_more zero some = absurd (omega (arith, some))
live_more (suc more) some = refl

pub length-compact : (es : Standing) → length (header ++ compact_area es) ≡ live_size es
length-compact [] = refl
length-compact (e ∷ es) =
    let cs = puts (e ∷ es) in
    let blocked : length (blocks (cs ∷ [])) ≡ length (1 ∷ commit cs) + 0 = ap length (flat_map-cons block cs []) ∙ length-append (block cs) [] in
    let area : length (compact_area (e ∷ es)) ≡ length (blocks (cs ∷ [])) + 1 = length-append (blocks (cs ∷ [])) (0 ∷ []) in
    let sized : length (commit cs) ≡ 4 + size_of (e ∷ es) = omega (arith, length-appending cs, length-append (commit cs) (0 ∷ []), length-puts (e ∷ es)) in
    omega (arith, length-append header (compact_area (e ∷ es)), area, blocked, sized, live_more (size_of (e ∷ es)) (omega arith))

-- ---- what fits
put_fits : (es : Standing) (k : List ℕ) (v : Entry) → IsSized 2 k → IsSized 4 v.value → EntriesFit es → EntriesFit (insert_entry by_bytes es k v)
put_fits [] k v key value fit = ((key, value), tt)
put_fits (e ∷ es) k v key value fit =
    elim (by_bytes k e.0) as (λ o. EntriesFit (match_ordering o ((k, v) ∷ e ∷ es) ((e.0, v) ∷ es) (e ∷ insert_entry by_bytes es k v))) [
      | Less ↦ ((key, value), fit)
      | Equal ↦ ((fit.0.0, value), fit.1)
      | Greater ↦ (fit.0, put_fits es k v key value fit.1)
    ]

deleted_fits : (es : Standing) (k : List ℕ) → EntriesFit es → EntriesFit (remove_entry (is_at (by_bytes k)) es)
deleted_fits [] k fit = fit
deleted_fits (e ∷ es) k fit =
    elim (is_at (by_bytes k) e.0) as (λ t. EntriesFit (cond t es (e ∷ remove_entry (is_at (by_bytes k)) es))) [
      | true ↦ fit.1
      | false ↦ (fit.0, deleted_fits es k fit.1)
    ]

pub changed_fits : (origin : ℕ) (es : Standing) (c : Change) → ChangeFits c → EntriesFit es → EntriesFit (changed origin es c)
changed_fits origin es (Put k v) fits fit = put_fits es k (record { value = v; origin = origin }) fits.0 fits.1 fit
changed_fits origin es (Delete k) fits fit = deleted_fits es k fit

pub committed_fits : (origin : ℕ) (es : Standing) (cs : List Change) → ChangesFit cs → EntriesFit es → EntriesFit (committed origin es cs)
committed_fits origin es [] fits fit = fit
committed_fits origin es (c ∷ cs) fits fit = committed_fits origin (changed origin es c) cs fits.1 (changed_fits origin es c fits.0 fit)

left_fits : (gate : ℕ) (es : Standing) (commits : List (List Change)) → AllByRecursion CommitFits commits → EntriesFit es → EntriesFit (left_from gate es commits)
left_fits gate es [] fits fit = fit
left_fits gate es (cs ∷ commits) fits fit = left_fits (gate + (1 + length (commit cs))) (committed gate es cs) commits fits.1 (committed_fits gate es cs fits.0.0 fit)

pub entries_fit : (commits : List (List Change)) → AllByRecursion CommitFits commits → EntriesFit (entries_of commits)
entries_fit commits fits = left_fits 17 [] commits fits tt

puts_fit : (es : Standing) → EntriesFit es → ChangesFit (puts es)
puts_fit [] fit = tt
puts_fit (e ∷ es) fit = (fit.0, puts_fit es fit.1)

-- the one commit of all entries has a spelling
pub compacted_fit : (es : Standing) → EntriesFit es → live_size es ≤ most_live → AllByRecursion CommitFits (compacted es)
compacted_fit [] fit small = tt
compacted_fit (e ∷ es) fit small =
    ((puts_fit (e ∷ es) fit, omega (arith, length-puts (e ∷ es), live_more (size_of (e ∷ es)) (omega arith), small)), tt)
