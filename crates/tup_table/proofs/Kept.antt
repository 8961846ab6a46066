-- What a change of slots does to their entries, and to the room of keys.
use Rattle.std.proofs.Common.{◌≡◌, ℕ, true, false, cond, List, [], ◌∷◌, Option, Some, None, is_some, All, refl, sym, ap, subst, ◌∙◌}
use Rattle.std.proofs.lemmas.List.Elements.{All-head, All-tail}
use Rattle.std.proofs.lemmas.Map.Keys.{sorted_tail}
use Rattle.std.proofs.lemmas.Map.Views.{All-after_first}
use Rattle.std.specs.BTreeMap.{insert_entry, is_at}
use Rattle.std.specs.List.{AllByRecursion}
use Rattle.std.specs.List.Sorted.{IsStrictlySortedBy}
use Rattle.std.specs.Map.{lookup, remove_entry, keys_of}
use Rattle.std.specs.Ordering.{match_ordering, is_eq}
use Rattle.std.specs.declared.cmp.Ordering.TheVariants.{Less, Equal, Greater}
use Rattle.tup_path.specs.Order.{by_bytes}
use Rattle.tup_table.specs.Entries.{Standing, IsAscending, changed, committed, entry_at}
use Rattle.tup_table.specs.Slots.{Slots, in_front, in_slot, standing, HaveRoom, RoomStays}
use Rattle.tup_table.specs.declared.change.Change.{Change}
use Rattle.tup_table.specs.declared.entry.Entry.{Entry}
use Rattle.tup_table.proofs.Keys.{antisymmetric, none_behind, all_after}

-- a key comes before those of a list
abbrev Below : {X : Type 0} → List ℕ → List (List ℕ × X) → Type 0
Below k es = AllByRecursion (λ later. by_bytes k later.0 ≡ Less) es

-- ---- the order of a map's keys
first_below : {X : Type 0} (k : List ℕ) (es : List (List ℕ × X)) → All (λ q. by_bytes k q ≡ Less) (keys_of es) → Below k es
first_below k [] all = tt
first_below k (e ∷ es) all = (All-head (λ q. by_bytes k q ≡ Less) e.0 (keys_of es) all, first_below k es (All-tail (λ q. by_bytes k q ≡ Less) e.0 (keys_of es) all))

pub ascends : {X : Type 0} (es : List (List ℕ × X)) → IsStrictlySortedBy by_bytes (keys_of es) → IsAscending es
ascends [] up = tt
ascends (e ∷ es) up = (first_below e.0 es (All-after_first by_bytes e.0 (keys_of es) up), ascends es (sorted_tail by_bytes e.0 (keys_of es) up))

below_standing : (k : List ℕ) (es : Slots) → Below k es → Below k (standing es)
below_standing k [] all = tt
below_standing k ((q, None) ∷ es) all = below_standing k es all.1
below_standing k ((q, Some w) ∷ es) all = (all.0, below_standing k es all.1)

standing_ascends : (es : Slots) → IsAscending es → IsAscending (standing es)
standing_ascends [] up = tt
standing_ascends ((q, None) ∷ es) up = standing_ascends es up.1
standing_ascends ((q, Some w) ∷ es) up = (below_standing q es up.0, standing_ascends es up.1)

-- the entries of a map's slots
pub entries_ascend : (es : Slots) (now : Standing) → standing es ≡ now → IsStrictlySortedBy by_bytes (keys_of es) → IsAscending now
entries_ascend es now seen up = subst (λ (s : Standing). IsAscending s) seen (standing_ascends es (ascends es up))

-- ---- a key before all others
front_put : (es : Standing) (k : List ℕ) (v : Entry) → Below k es → insert_entry by_bytes es k v ≡ (k, v) ∷ es
front_put [] k v all = refl
front_put (e ∷ es) k v all = rw all.0 refl

front_delete : (es : Standing) (k : List ℕ) → Below k es → remove_entry (is_at (by_bytes k)) es ≡ es
front_delete [] k all = refl
front_delete (e ∷ es) k all = rw all.0 (ap (λ (t : Standing). e ∷ t) (front_delete es k all.1))

-- the entries of the slots behind a key, for the same key by another name
behind : (k q : List ℕ) (es : Slots) → k ≡ q → Below q es → Below k (standing es)
behind k q es same all = below_standing k es (subst (λ (x : List ℕ). Below x es) (sym same) all)

-- ---- a slot that is filled, emptied, or removed
pub filled : (es : Slots) (k : List ℕ) (v : Entry) → IsAscending es → standing (insert_entry by_bytes es k (Some v)) ≡ insert_entry by_bytes (standing es) k v
filled [] k v up = refl
filled ((q, None) ∷ es) k v up =
    (elim (by_bytes k q) as (λ o. by_bytes k q ≡ o → standing (match_ordering o ((k, Some v) ∷ (q, None) ∷ es) ((q, Some v) ∷ es) ((q, None) ∷ insert_entry by_bytes es k (Some v))) ≡ insert_entry by_bytes (standing es) k v) [
      | Less ↦ λ o. sym (front_put (standing es) k v (below_standing k es (all_after k q es o up.0)))
      | Equal ↦ λ o. (let same = antisymmetric k q o in ap (λ (x : List ℕ). (x, v) ∷ standing es) (sym same) ∙ sym (front_put (standing es) k v (behind k q es same up.0)))
      | Greater ↦ λ o. filled es k v up.1
    ]) refl
filled ((q, Some w) ∷ es) k v up =
    (elim (by_bytes k q) as (λ o. by_bytes k q ≡ o → standing (match_ordering o ((k, Some v) ∷ (q, Some w) ∷ es) ((q, Some v) ∷ es) ((q, Some w) ∷ insert_entry by_bytes es k (Some v))) ≡ match_ordering o ((k, v) ∷ (q, w) ∷ standing es) ((q, v) ∷ standing es) ((q, w) ∷ insert_entry by_bytes (standing es) k v)) [
      | Less ↦ λ o. refl
      | Equal ↦ λ o. refl
      | Greater ↦ λ o. ap (λ (t : Standing). (q, w) ∷ t) (filled es k v up.1)
    ]) refl

pub emptied : (es : Slots) (k : List ℕ) → IsAscending es → standing (insert_entry by_bytes es k None) ≡ remove_entry (is_at (by_bytes k)) (standing es)
emptied [] k up = refl
emptied ((q, None) ∷ es) k up =
    (elim (by_bytes k q) as (λ o. by_bytes k q ≡ o → standing (match_ordering o ((k, None) ∷ (q, None) ∷ es) ((q, None) ∷ es) ((q, None) ∷ insert_entry by_bytes es k None)) ≡ remove_entry (is_at (by_bytes k)) (standing es)) [
      | Less ↦ λ o. sym (front_delete (standing es) k (below_standing k es (all_after k q es o up.0)))
      | Equal ↦ λ o. sym (front_delete (standing es) k (behind k q es (antisymmetric k q o) up.0))
      | Greater ↦ λ o. emptied es k up.1
    ]) refl
emptied ((q, Some w) ∷ es) k up =
    (elim (by_bytes k q) as (λ o. by_bytes k q ≡ o → standing (match_ordering o ((k, None) ∷ (q, Some w) ∷ es) ((q, None) ∷ es) ((q, Some w) ∷ insert_entry by_bytes es k None)) ≡ cond (is_eq o) (standing es) ((q, w) ∷ remove_entry (is_at (by_bytes k)) (standing es))) [
      | Less ↦ λ o. ap (λ (t : Standing). (q, w) ∷ t) (sym (front_delete (standing es) k (below_standing k es (all_after k q es o up.0))))
      | Equal ↦ λ o. refl
      | Greater ↦ λ o. ap (λ (t : Standing). (q, w) ∷ t) (emptied es k up.1)
    ]) refl

-- ---- a key without a slot
abbrev found : Option Entry → Option (Option Entry)
found slot = Some slot

pub roomed : (es : Slots) (k : List ℕ) → is_some (lookup (is_at (by_bytes k)) es) ≡ false → standing (insert_entry by_bytes es k None) ≡ standing es
roomed [] k none = refl
roomed (e ∷ es) k none =
    (elim (by_bytes k e.0) as (λ o. is_some (cond (is_eq o) (found e.1) (lookup (is_at (by_bytes k)) es)) ≡ false → standing (match_ordering o ((k, None) ∷ e ∷ es) ((e.0, None) ∷ es) (e ∷ insert_entry by_bytes es k None)) ≡ standing (e ∷ es)) [
      | Less ↦ λ n. refl
      | Equal ↦ λ n. absurd (cc)
      | Greater ↦ λ n. ap (in_front e.0 e.1) (roomed es k n)
    ]) none

pub absent : (es : Slots) (k : List ℕ) → is_some (lookup (is_at (by_bytes k)) es) ≡ false → remove_entry (is_at (by_bytes k)) (standing es) ≡ standing es
absent [] k none = refl
absent ((q, None) ∷ es) k none =
    (elim (is_at (by_bytes k) q) as (λ t. is_some (cond t (found None) (lookup (is_at (by_bytes k)) es)) ≡ false → remove_entry (is_at (by_bytes k)) (standing es) ≡ standing es) [
      | true ↦ λ n. absurd (cc)
      | false ↦ λ n. absent es k n
    ]) none
absent ((q, Some w) ∷ es) k none =
    (elim (is_at (by_bytes k) q) as (λ t. is_some (cond t (found (Some w)) (lookup (is_at (by_bytes k)) es)) ≡ false → cond t (standing es) ((q, w) ∷ remove_entry (is_at (by_bytes k)) (standing es)) ≡ (q, w) ∷ standing es) [
      | true ↦ λ n. absurd (cc)
      | false ↦ λ n. ap (λ (t : Standing). (q, w) ∷ t) (absent es k n)
    ]) none

-- ---- what stands in a key's slot
slot_at : (es : Slots) (k : List ℕ) → IsAscending es → entry_at (standing es) k ≡ in_slot (lookup (is_at (by_bytes k)) es)
slot_at [] k up = refl
slot_at ((q, None) ∷ es) k up =
    (elim (by_bytes k q) as (λ o. by_bytes k q ≡ o → entry_at (standing es) k ≡ in_slot (cond (is_eq o) (found None) (lookup (is_at (by_bytes k)) es))) [
      | Less ↦ λ o. slot_at es k up.1
      | Equal ↦ λ o. none_behind k q (standing es) (antisymmetric k q o) (below_standing q es up.0)
      | Greater ↦ λ o. slot_at es k up.1
    ]) refl
slot_at ((q, Some w) ∷ es) k up =
    elim (is_at (by_bytes k) q) as (λ t. cond t (Some w) (entry_at (standing es) k) ≡ in_slot (cond t (found (Some w)) (lookup (is_at (by_bytes k)) es))) [
      | true ↦ refl
      | false ↦ slot_at es k up.1
    ]

-- ---- room
rooms_kept : (old new : Slots) (changes : List Change) → RoomStays old new → HaveRoom old changes → HaveRoom new changes
rooms_kept old new [] kept all = tt
rooms_kept old new (c ∷ changes) kept all = (kept c all.0, rooms_kept old new changes kept all.1)

-- a slot that has an entry is the first that stands
pub slot_taken : (left rest : Slots) (key : List ℕ) (slot : Option Entry) (entry : Entry) → left ≡ (key, slot) ∷ rest → slot ≡ Some entry
    → standing left ≡ (key, entry) ∷ standing rest
slot_taken left rest key slot entry first some = ap standing first ∙ ap (λ (s : Option Entry). in_front key s (standing rest)) some

-- ---- for the calls: what a map tells
module _ (es new : Slots) (up : IsStrictlySortedBy by_bytes (keys_of es)) (k : List ℕ) where
  pub put_slot : (v : Entry) → new ≡ insert_entry by_bytes es k (Some v) → standing new ≡ insert_entry by_bytes (standing es) k v
  put_slot v e = ap standing e ∙ filled es k v (ascends es up)

  pub empty_slot : new ≡ insert_entry by_bytes es k None → standing new ≡ remove_entry (is_at (by_bytes k)) (standing es)
  empty_slot e = ap standing e ∙ emptied es k (ascends es up)

-- ---- what is looked up
module _ (es : Slots) (now : Standing) (up : IsStrictlySortedBy by_bytes (keys_of es)) (k : List ℕ) (seen : standing es ≡ now) where
  pub at_slot : (slot : Option (Option Entry)) → slot ≡ lookup (is_at (by_bytes k)) es → in_slot slot ≡ entry_at now k
  at_slot slot e = ap in_slot e ∙ sym (slot_at es k (ascends es up)) ∙ ap (λ (s : Standing). entry_at s k) seen

  pub entry_there : (slot result : Option Entry) → found slot ≡ lookup (is_at (by_bytes k)) es → result ≡ slot → result ≡ entry_at now k
  entry_there slot result e is = is ∙ at_slot (found slot) e

  pub no_entry : None ≡ lookup (is_at (by_bytes k)) es → None ≡ entry_at now k
  no_entry e = at_slot None e

-- ---- one change settled, and those that are left
module _ (old new : Slots) (origin : ℕ) (changes rest : List Change) (change : Change) (cut : changes ≡ change ∷ rest) where
  pub room_left : RoomStays old new → HaveRoom old changes → HaveRoom new rest
  room_left kept room = let all : HaveRoom old (change ∷ rest) = subst (HaveRoom old) cut room in rooms_kept old new rest kept all.1

  pub settled : standing new ≡ changed origin (standing old) change → committed origin (standing new) rest ≡ committed origin (standing old) changes
  settled e = ap (λ (s : Standing). committed origin s rest) e ∙ sym (ap (committed origin (standing old)) cut)
