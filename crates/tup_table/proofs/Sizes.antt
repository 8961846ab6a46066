-- How many bytes entries take after a change.
use Rattle.std.proofs.Common.{◌≡◌, ◌≢◌, ℕ, zero, suc, true, false, cond, ◌+◌, ◌-◌, ◌*◌, ◌≤◌, List, [], ◌∷◌, ◌++◌, Option, Some, None, length, map, length-append, refl, sym, ap, subst, ◌∙◌, arith}
use Rattle.std.proofs.lemmas.Bool.{false≢true}
use Rattle.std.specs.BTreeMap.{insert_entry, is_at}
use Rattle.std.specs.List.{AllByRecursion}
use Rattle.std.specs.Map.{remove_entry}
use Rattle.std.specs.Ordering.{match_ordering, is_eq}
use Rattle.std.specs.declared.cmp.Ordering.TheVariants.{Less, Equal, Greater}
use Rattle.tup_path.specs.Order.{by_bytes}
use Rattle.tup_table.specs.Compact.{EntriesFit, HasSameValues, put_of, size_of, size_in, size_at, size_known, size_left, live_by, live_size}
use Rattle.tup_table.specs.Entries.{Standing, IsAscending, changed, committed, left_from, entries_of, entry_at, key_of}
use Rattle.tup_table.specs.Spelling.{ChangesFit, change_spelling, payload, commit, blocks}
use Rattle.tup_table.specs.Store.{header}
use Rattle.tup_table.specs.Slots.{Slots, AreSlotsOf, standing}
use Rattle.tup_table.specs.declared.change.Change.{Change}
use Rattle.tup_table.specs.declared.change.Change.TheVariants.{Put, Delete}
use Rattle.tup_table.specs.declared.entry.Entry.{Entry}
use Rattle.tup_table.proofs.Keys.{antisymmetric, same_key, none_behind, all_after, changed_ascending, committed_ascending, after_put, after_delete, after_others}
use Rattle.tup_table.proofs.Stores.{committed-push, length-blocks}
use Rattle.tup_table.proofs.Appends.{length-put, length-payload, length-appending}
use Rattle.tup_table.proofs.Compact.{length-puts, committed_fits}

-- a key before all others has no entry
none_first : (k : List ℕ) (es : Standing) → AllByRecursion (λ later. by_bytes k later.0 ≡ Less) es → entry_at es k ≡ None
none_first k es below = none_behind k k es refl below

-- what a put adds, and what it takes away
put_size : (es : Standing) (k : List ℕ) (v : Entry) → IsAscending es → size_of (insert_entry by_bytes es k v) + size_at es k ≡ size_of es + size_in k (Some v)
put_size [] k v up = omega arith
put_size (e ∷ es) k v up =
    (elim (by_bytes k e.0) as (λ o. by_bytes k e.0 ≡ o → size_of (match_ordering o ((k, v) ∷ e ∷ es) ((e.0, v) ∷ es) (e ∷ insert_entry by_bytes es k v)) + size_in k (cond (is_eq o) (Some e.1) (entry_at es k)) ≡ size_of (e ∷ es) + size_in k (Some v)) [
      | Less ↦ λ o. (let none : size_in k (entry_at es k) ≡ 0 = ap (size_in k) (none_first k es (all_after k e.0 es o up.0)) in omega (arith, none))
      | Equal ↦ λ o. (let same : length k ≡ length e.0 = ap length (antisymmetric k e.0 o) in omega (arith, same))
      | Greater ↦ λ o. (let on = put_size es k v up.1 in omega (arith, on))
    ]) refl

-- what a deletion takes away
deleted_size : (es : Standing) (k : List ℕ) → IsAscending es → size_of (remove_entry (is_at (by_bytes k)) es) + size_at es k ≡ size_of es
deleted_size [] k up = refl
deleted_size (e ∷ es) k up =
    (elim (by_bytes k e.0) as (λ o. by_bytes k e.0 ≡ o → size_of (cond (is_eq o) es (e ∷ remove_entry (is_at (by_bytes k)) es)) + size_in k (cond (is_eq o) (Some e.1) (entry_at es k)) ≡ size_of (e ∷ es)) [
      | Less ↦ λ o. (let on = deleted_size es k up.1 in omega (arith, on))
      | Equal ↦ λ o. (let same : length k ≡ length e.0 = ap length (antisymmetric k e.0 o) in omega (arith, same))
      | Greater ↦ λ o. (let on = deleted_size es k up.1 in omega (arith, on))
    ]) refl

pub changed_size : (origin : ℕ) (es : Standing) (c : Change) → IsAscending es → size_of (changed origin es c) + size_at es (key_of c) ≡ size_of es + size_left c
changed_size origin es (Put k v) up = put_size es k (record { value = v; origin = origin }) up
changed_size origin es (Delete k) up = deleted_size es k up ∙ (omega arith)

-- an entry takes no more than all
pub size_inside : (es : Standing) (k : List ℕ) → IsAscending es → size_at es k ≤ size_of es
size_inside es k up = let on = deleted_size es k up in omega (arith, on)

-- what a change leaves under its own key, and under others
left_at : (origin : ℕ) (es : Standing) (c : Change) → IsAscending es → size_at (changed origin es c) (key_of c) ≡ size_left c
left_at origin es (Put k v) up = ap (size_in k) (after_put es origin k v)
left_at origin es (Delete k) up = ap (size_in k) (after_delete es origin k up)

others_at : (origin : ℕ) (es : Standing) (c : Change) (q : List ℕ) → q ≢ key_of c → size_at (changed origin es c) q ≡ size_at es q
others_at origin es c q differs = ap (size_in q) (after_others es origin c q differs)

-- the size of an entry that is there, whose key is short
pub short_at : (es : Standing) (k : List ℕ) (v : Entry) → EntriesFit es → entry_at es k ≡ Some v → length k ≤ 65535
short_at [] k v fit there = absurd (cc)
short_at (e ∷ es) k v fit there =
    (elim (by_bytes k e.0) as (λ o. by_bytes k e.0 ≡ o → cond (is_eq o) (Some e.1) (entry_at es k) ≡ Some v → length k ≤ 65535) [
      | Less ↦ λ o t. short_at es k v fit.1 t
      | Equal ↦ λ o t. (let same : length k ≡ length e.0 = ap length (antisymmetric k e.0 o) in let key = fit.0.0 in omega (arith, same, key))
      | Greater ↦ λ o t. short_at es k v fit.1 t
    ]) refl there

-- ---- tests of keys
pub same_at : (k q : List ℕ) → is_at (by_bytes k) q ≡ true → k ≡ q
same_at k q same =
    (elim (by_bytes k q) as (λ o. by_bytes k q ≡ o → is_eq o ≡ true → k ≡ q) [
      | Less ↦ λ o t. absurd (cc)
      | Equal ↦ λ o t. antisymmetric k q o
      | Greater ↦ λ o t. absurd (cc)
    ]) refl same

pub not_at : (k q : List ℕ) → is_at (by_bytes k) q ≡ false → q ≢ k
not_at k q other e = let same : is_at (by_bytes k) q ≡ true = subst (λ (x : List ℕ). is_at (by_bytes k) x ≡ true) (sym e) (same_key k) in false≢true (sym other ∙ same)

-- ---- sizes while changes are counted
-- the sizes once some changes are made
pub record SizedTo (es : Standing) (done : List Change) (known : List ℕ → Option ℕ) (size : ℕ) : Type 0 where
  pub whole : (origin : ℕ) → size ≡ size_of (committed origin es done)
  pub each : (origin : ℕ) (q : List ℕ) → size_at (committed origin es done) q ≡ size_known es (known q) q

pub sized_first : (es : Standing) (known : List ℕ → Option ℕ) (size : ℕ) → ((q : List ℕ) → known q ≡ None) → size ≡ size_of es → SizedTo es [] known size
sized_first es known size none is = record { whole = λ origin. is; each = λ origin q. ap (λ (k : Option ℕ). size_known es k q) (sym (none q)) }

module _ (es : Standing) (up : IsAscending es) (done : List Change) (known : List ℕ → Option ℕ) (size : ℕ) (so_far : SizedTo es done known size) (c : Change) where
  abbrev now : ℕ → Standing
  now origin = committed origin es done

  now_up : (origin : ℕ) → IsAscending (now origin)
  now_up origin = committed_ascending origin es done up

  pub before_fits : (before : ℕ) → before ≡ size_known es (known (key_of c)) (key_of c) → before ≤ size
  before_fits before is = omega (arith, is, so_far.each 0 (key_of c), size_inside (now 0) (key_of c) (now_up 0), so_far.whole 0)

  module _ (before : ℕ) (is : before ≡ size_known es (known (key_of c)) (key_of c)) (later : List ℕ → Option ℕ)
      (kept : (q : List ℕ) → later q ≡ cond (is_at (by_bytes (key_of c)) q) (Some (size_left c)) (known q)) (more : ℕ) (sum : more ≡ (size - before) + size_left c) where
    whole_more : (origin : ℕ) → more ≡ size_of (committed origin es (done ++ c ∷ []))
    whole_more origin =
        let pushed = ap size_of (committed-push origin es done c) in
        omega (arith, sum, before_fits before is, is, pushed, changed_size origin (now origin) c (now_up origin), so_far.whole origin, so_far.each origin (key_of c))

    at_key : (origin : ℕ) (q : List ℕ) → is_at (by_bytes (key_of c)) q ≡ true → size_at (changed origin (now origin) c) q ≡ size_left c
    at_key origin q same =
        subst (λ (k : List ℕ). size_at (changed origin (now origin) c) k ≡ size_left c) (same_at (key_of c) q same) (left_at origin (now origin) c (now_up origin))

    each_more : (origin : ℕ) (q : List ℕ) → size_at (committed origin es (done ++ c ∷ [])) q ≡ size_known es (later q) q
    each_more origin q =
        ap (λ (s : Standing). size_at s q) (committed-push origin es done c)
        ∙ (elim (is_at (by_bytes (key_of c)) q) as (λ t. is_at (by_bytes (key_of c)) q ≡ t → size_at (changed origin (now origin) c) q ≡ size_known es (cond t (Some (size_left c)) (known q)) q) [
          | true ↦ λ t. at_key origin q t
          | false ↦ λ t. others_at origin (now origin) c q (λ e. not_at (key_of c) q t e) ∙ so_far.each origin q
        ]) refl
        ∙ ap (λ (k : Option ℕ). size_known es k q) (sym (kept q))

    pub sized_more : SizedTo es (done ++ c ∷ []) later more
    sized_more = record { whole = whole_more; each = each_more }

-- ---- a store isn't longer once it is compacted
left_short : (c : Change) → size_left c ≤ length (change_spelling c)
left_short (Put k v) = omega (arith, length-put k v)
left_short (Delete k) = omega arith

committed_short : (origin : ℕ) (es : Standing) (cs : List Change) → IsAscending es → size_of (committed origin es cs) ≤ size_of es + length (payload cs)
committed_short origin es [] up = omega arith
committed_short origin es (c ∷ cs) up =
    omega (arith, committed_short origin (changed origin es c) cs (changed_ascending origin es c up), changed_size origin es c up, left_short c, length-payload c cs)

-- each commit takes a gate and a length beside its changes
left_from_short : (gate : ℕ) (es : Standing) (commits : List (List Change)) → IsAscending es → size_of (left_from gate es commits) + 5 * length commits ≤ size_of es + length (blocks commits)
left_from_short gate es [] up = omega arith
left_from_short gate es (cs ∷ commits) up =
    omega (arith, left_from_short (gate + (1 + length (commit cs))) (committed gate es cs) commits (committed_ascending gate es cs up), committed_short gate es cs up, length-blocks cs commits, length-appending cs, length-append (commit cs) (0 ∷ []))

live_short : (commits : List (List Change)) (size : ℕ) → size + 5 * length commits ≤ length (blocks commits) → live_by size ≤ 18 + length (blocks commits)
live_short commits zero short = omega arith
live_short [] (suc more) short = absurd (omega (arith, short))
live_short (cs ∷ commits) (suc more) short = omega (arith, short)

pub compact_shorter : (commits : List (List Change)) → live_size (entries_of commits) ≤ length (header ++ blocks commits) + 1
compact_shorter commits =
    let short = live_short commits (size_of (entries_of commits)) (omega (arith, left_from_short 17 [] commits tt)) in
    omega (arith, short, length-append header (blocks commits))

-- wherever the entries were put
pub size_same : (one other : Standing) → HasSameValues one other → size_of one ≡ size_of other
size_same one other same = sym (length-puts one) ∙ ap (λ (vs : List (List ℕ × List ℕ)). length (payload (map put_of vs))) same ∙ length-puts other

-- ---- the sizes that a map of slots keeps
pub slots_same : (old new : Slots) (size : ℕ) → AreSlotsOf size old → standing new ≡ standing old → AreSlotsOf size new
slots_same old new size are same = subst (λ (es : Standing). EntriesFit es × (size ≡ size_of es) × (size ≤ 4611686018427387904)) (sym same) are

pub slots_committed : (old new : Slots) (origin : ℕ) (changes : List Change) (size : ℕ) → EntriesFit (standing old) → ChangesFit changes → standing new ≡ committed origin (standing old) changes → size ≤ 4611686018427387904 → size ≡ size_of (committed origin (standing old) changes)
    → AreSlotsOf size new
slots_committed old new origin changes size fit fits is small takes =
    subst (λ (es : Standing). EntriesFit es × (size ≡ size_of es) × (size ≤ 4611686018427387904)) (sym is) (committed_fits origin (standing old) changes fits fit, takes, small)
