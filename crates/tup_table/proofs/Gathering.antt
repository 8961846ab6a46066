-- Changes that are gathered one after another, and put in order at once.
use Rattle.std.specs.Prelude.{◌≡◌, ℕ, ◌+◌, Bool, true, false, cond, not, ◌&&◌, List, [], ◌∷◌, ◌++◌, Option, Some, None}
use Rattle.std.proofs.Common.{refl, sym, ap, subst, ◌∙◌, zero-add, append_assoc, append-nil}
use Rattle.std.proofs.lemmas.Cmp.{nat_cmp_total, nat_list_cmp_total, tied_itself}
use Rattle.std.proofs.lemmas.Bool.{false≢true}
use Rattle.std.proofs.lemmas.Option.{none-some, same_Some}
use Rattle.std.specs.BTreeMap.{BTreeMap, IsFromIterResult, insert_entry, is_at}
use Rattle.std.specs.List.{AllByRecursion, filter}
use Rattle.std.specs.List.Sorted.{ties}
use Rattle.std.specs.Map.{lookup, update_all}
use Rattle.std.specs.Ordering.{eq_by_cmp, is_eq, is_lt, nat_cmp, ordering_reverse}
use Rattle.std.specs.declared.cmp.Ordering.{Ordering}
use Rattle.std.specs.declared.cmp.Ordering.TheVariants.{Less, Equal, Greater}
use Rattle.tup_path.specs.Order.{by_bytes}
use Rattle.tup_table.specs.Compact.{EntriesFit, size_in, size_of}
use Rattle.tup_table.specs.Entries.{Standing, IsAscending, changed}
use Rattle.tup_table.specs.KeyFronts.{AreByFronts, front_of}
use Rattle.tup_table.specs.Slots.{Slots, gathered, in_front, slot_of, standing, IsReplaced, LeaveAlike}
use Rattle.tup_table.specs.Spelling.{ChangeFits}
use Rattle.tup_table.specs.declared.change.Change.{Change}
use Rattle.tup_table.specs.declared.change.Change.TheVariants.{Put, Delete}
use Rattle.tup_table.specs.declared.entry.Entry.{Entry}
use Rattle.tup_table.proofs.Compact.{changed_fits}
use Rattle.tup_table.proofs.Keys.{all_after, antisymmetric, put_ascending, put_found, put_others, same_key}
use Rattle.tup_table.proofs.Kept.{ascends, emptied, filled}
use Rattle.tup_table.proofs.Sizes.{not_at, same_at}

-- ---- one slot more
gathered_push : (slots more : Slots) (slot : List ℕ × Option Entry) → gathered slots (more ++ slot ∷ []) ≡ insert_entry by_bytes (gathered slots more) slot.0 slot.1
gathered_push slots [] slot = refl
gathered_push slots (first ∷ more) slot = gathered_push (insert_entry by_bytes slots first.0 first.1) more slot

gathered_ascends : (slots more : Slots) → IsAscending slots → IsAscending (gathered slots more)
gathered_ascends slots [] up = up
gathered_ascends slots (first ∷ more) up = gathered_ascends (insert_entry by_bytes slots first.0 first.1) more (put_ascending slots first.0 first.1 up)

-- a change is gathered
pub change_gathered : (slots : Slots) (origin : ℕ) (change : Change) → standing (gathered [] (slots ++ slot_of origin change ∷ [])) ≡ changed origin (standing (gathered [] slots)) change
change_gathered slots origin (Put key value) =
    ap standing (gathered_push [] slots (slot_of origin (Put key value))) ∙ filled (gathered [] slots) key (record { value = value; origin = origin }) (gathered_ascends [] slots tt)
change_gathered slots origin (Delete key) =
    ap standing (gathered_push [] slots (slot_of origin (Delete key))) ∙ emptied (gathered [] slots) key (gathered_ascends [] slots tt)

-- what is gathered has spellings
pub gathered_fits : (slots : Slots) (origin : ℕ) (change : Change) → ChangeFits change → EntriesFit (standing (gathered [] slots)) → EntriesFit (standing (gathered [] (slots ++ slot_of origin change ∷ [])))
gathered_fits slots origin change fits fit = subst EntriesFit (sym (change_gathered slots origin change)) (changed_fits origin (standing (gathered [] slots)) change fits fit)

-- ---- in order
put_at : (slots : Slots) (k : List ℕ) (v : Option Entry) (q : List ℕ) → lookup (is_at (by_bytes q)) (insert_entry by_bytes slots k v) ≡ cond (eq_by_cmp by_bytes k q) (Some v) (lookup (is_at (by_bytes q)) slots)
put_at slots k v q =
    (elim (is_at (by_bytes k) q) as (λ t. is_at (by_bytes k) q ≡ t → lookup (is_at (by_bytes q)) (insert_entry by_bytes slots k v) ≡ cond t (Some v) (lookup (is_at (by_bytes q)) slots)) [
      | true ↦ λ t. subst (λ (x : List ℕ). lookup (is_at (by_bytes x)) (insert_entry by_bytes slots k v) ≡ Some v) (same_at k q t) (put_found slots k v)
      | false ↦ λ t. put_others slots k v q (not_at k q t)
    ]) refl

lookups : (slots more : Slots) (before : List ℕ → Option (Option Entry)) → ((q : List ℕ) → lookup (is_at (by_bytes q)) slots ≡ before q)
    → (q : List ℕ) → lookup (is_at (by_bytes q)) (gathered slots more) ≡ update_all (eq_by_cmp by_bytes) before more q
lookups slots [] before same q = same q
lookups slots (first ∷ more) before same q =
    lookups (insert_entry by_bytes slots first.0 first.1) more (λ r. cond (eq_by_cmp by_bytes first.0 r) (Some first.1) (before r))
    (λ r. put_at slots first.0 first.1 r ∙ ap (λ (found : Option (Option Entry)). cond (eq_by_cmp by_bytes first.0 r) (Some first.1) found) (same r)) q

-- ---- slots in order are the same where each key is looked up alike
none_found : (k : List ℕ) (es : Slots) → AllByRecursion (λ later. by_bytes k later.0 ≡ Less) es → lookup (is_at (by_bytes k)) es ≡ None
none_found k [] all = refl
none_found k (e ∷ es) all = ap (λ (o : Ordering). cond (is_eq o) (Some e.1) (lookup (is_at (by_bytes k)) es)) all.0 ∙ none_found k es all.1

first_found : (e : List ℕ × Option Entry) (es : Slots) → lookup (is_at (by_bytes e.0)) (e ∷ es) ≡ Some e.1
first_found e es = ap (λ b. cond b (Some e.1) (lookup (is_at (by_bytes e.0)) es)) (same_key e.0)

before_first : (k : List ℕ) (e : List ℕ × Option Entry) (es : Slots) → by_bytes k e.0 ≡ Less → IsAscending (e ∷ es) → lookup (is_at (by_bytes k)) (e ∷ es) ≡ None
before_first k e es first up = none_found k (e ∷ es) (first, all_after k e.0 es first up.0)

abbrev AreAlike : Slots → Slots → Type 0
AreAlike es fs = (q : List ℕ) → lookup (is_at (by_bytes q)) es ≡ lookup (is_at (by_bytes q)) fs

module _ (e f : List ℕ × Option Entry) (es fs : Slots) (up : IsAscending (e ∷ es)) (over : IsAscending (f ∷ fs)) (same : AreAlike (e ∷ es) (f ∷ fs)) (key : e.0 ≡ f.0) where
  rest_alike : (q : List ℕ) (t : Bool) → is_at (by_bytes q) e.0 ≡ t → lookup (is_at (by_bytes q)) es ≡ lookup (is_at (by_bytes q)) fs
  rest_alike q true t =
      let at : q ≡ e.0 = same_at q e.0 t in
      ap (λ (k : List ℕ). lookup (is_at (by_bytes k)) es) at ∙ none_found e.0 es up.0 ∙ sym (ap (λ (k : List ℕ). lookup (is_at (by_bytes k)) fs) (at ∙ key) ∙ none_found f.0 fs over.0)
  rest_alike q false t =
      sym (ap (λ b. cond b (Some e.1) (lookup (is_at (by_bytes q)) es)) t) ∙ same q ∙ ap (λ b. cond b (Some f.1) (lookup (is_at (by_bytes q)) fs)) (ap (is_at (by_bytes q)) (sym key) ∙ t)

  all_alike : (AreAlike es fs → es ≡ fs) → e ∷ es ≡ f ∷ fs
  all_alike more =
      let value : e.1 ≡ f.1 = same_Some e.1 f.1 (sym (first_found e es) ∙ same e.0 ∙ ap (λ (k : List ℕ). lookup (is_at (by_bytes k)) (f ∷ fs)) key ∙ first_found f fs) in
      let tail : es ≡ fs = more (λ q. rest_alike q (is_at (by_bytes q) e.0) refl) in
      λ i. (key i, value i) ∷ tail i

same_slots : (es fs : Slots) → IsAscending es → IsAscending fs → AreAlike es fs → es ≡ fs
same_slots [] [] up over same = refl
same_slots [] (f ∷ fs) up over same = absurd (none-some f.1 (same f.0 ∙ first_found f fs))
same_slots (e ∷ es) [] up over same = absurd (none-some e.1 (sym (same e.0) ∙ first_found e es))
same_slots (e ∷ es) (f ∷ fs) up over same =
    (elim (by_bytes e.0 f.0) as (λ o. by_bytes e.0 f.0 ≡ o → e ∷ es ≡ f ∷ fs) [
      | Less ↦ λ o. absurd (none-some e.1 (sym (before_first e.0 f fs o over) ∙ sym (same e.0) ∙ first_found e es))
      | Equal ↦ λ o. all_alike e f es fs up over same (antisymmetric e.0 f.0 o) (same_slots es fs up.1 over.1)
      | Greater ↦ λ o. absurd (none-some f.1 (sym (before_first f.0 e es (nat_list_cmp_total.antisymm f.0 e.0 ∙ ap ordering_reverse o) up) ∙ same f.0 ∙ first_found f fs))
    ]) refl

-- ---- slots by their fronts
-- what stands under a key is by the slots of any kind that has all slots of this key
only_kept : (p : List ℕ × Option Entry → Bool) (q : List ℕ) → ((s : List ℕ × Option Entry) → eq_by_cmp by_bytes s.0 q ≡ true → p s ≡ true)
    → (slots : Slots) (f g : List ℕ → Option (Option Entry)) → f q ≡ g q → update_all (eq_by_cmp by_bytes) f slots q ≡ update_all (eq_by_cmp by_bytes) g (filter p slots) q
only_kept p q has [] f g same = same
only_kept p q has (s ∷ slots) f g same =
    (elim (p s) as (λ t. p s ≡ t → update_all (eq_by_cmp by_bytes) f (s ∷ slots) q ≡ update_all (eq_by_cmp by_bytes) g (cond t (s ∷ filter p slots) (filter p slots)) q) [
      | true ↦ λ t.
          only_kept p q has slots (λ r. cond (eq_by_cmp by_bytes s.0 r) (Some s.1) (f r)) (λ r. cond (eq_by_cmp by_bytes s.0 r) (Some s.1) (g r))
          (ap (λ (found : Option (Option Entry)). cond (eq_by_cmp by_bytes s.0 q) (Some s.1) found) same)
      | false ↦ λ t. only_kept p q has slots (λ r. cond (eq_by_cmp by_bytes s.0 r) (Some s.1) (f r)) g (not_taken s f g same t (eq_by_cmp by_bytes s.0 q) refl)
    ]) refl
  where
    not_taken : (s : List ℕ × Option Entry) (f g : List ℕ → Option (Option Entry)) → f q ≡ g q → p s ≡ false → (t : Bool) → eq_by_cmp by_bytes s.0 q ≡ t → cond (eq_by_cmp by_bytes s.0 q) (Some s.1) (f q) ≡ g q
    not_taken s f g same other true t = absurd (false≢true (sym other ∙ has s t))
    not_taken s f g same other false t = ap (λ b. cond b (Some s.1) (f q)) t ∙ same

-- a front is neither less nor more than that of the same key
abbrev AreTied : List ℕ → List ℕ → Type 0
AreTied q k = (not (is_lt (nat_cmp (front_of q) (front_of k))) && not (is_lt (nat_cmp (front_of k) (front_of q)))) ≡ true

tied : (q : List ℕ) → AreTied q q
tied q = ap (λ (o : Ordering). not (is_lt o) && not (is_lt o)) (tied_itself nat_cmp_total (front_of q))

abbrev of_front : (q : List ℕ) → List ℕ × Option Entry → Bool
of_front q = ties (λ (x y : List ℕ × Option Entry). is_lt (nat_cmp (front_of x.0) (front_of y.0))) (q, None)

same_front : (q : List ℕ) (s : List ℕ × Option Entry) → eq_by_cmp by_bytes s.0 q ≡ true → of_front q s ≡ true
same_front q s t = subst (AreTied q) (sym (same_at s.0 q t)) (tied q)

-- so slots leave the same under each key once they stand by their fronts
by_fronts_same : (slots sorted : Slots) → AreByFronts slots sorted → (q : List ℕ)
    → update_all (eq_by_cmp by_bytes) (λ _. None) sorted q ≡ update_all (eq_by_cmp by_bytes) (λ _. None) slots q
by_fronts_same slots sorted stable q =
    only_kept (of_front q) q (same_front q) sorted (λ _. None) (λ _. None) refl
    ∙ ap (λ (kept : Slots). update_all (eq_by_cmp by_bytes) (λ _. None) kept q) (stable (q, None))
    ∙ sym (only_kept (of_front q) q (same_front q) slots (λ _. None) (λ _. None) refl)

-- ---- slots without those that are replaced
-- what slots leave under a key is by what stood there before
alike_from : (slots : Slots) (f g : List ℕ → Option (Option Entry)) (q : List ℕ) → f q ≡ g q → update_all (eq_by_cmp by_bytes) f slots q ≡ update_all (eq_by_cmp by_bytes) g slots q
alike_from [] f g q same = same
alike_from (s ∷ slots) f g q same =
    alike_from slots (λ r. cond (eq_by_cmp by_bytes s.0 r) (Some s.1) (f r)) (λ r. cond (eq_by_cmp by_bytes s.0 r) (Some s.1) (g r)) q
    (ap (λ (found : Option (Option Entry)). cond (eq_by_cmp by_bytes s.0 q) (Some s.1) found) same)

cond_twice : {A : Type 0} (b : Bool) (x y z : A) → cond b x (cond b y z) ≡ cond b x z
cond_twice true x y z = refl
cond_twice false x y z = refl

-- a slot that is replaced leaves nothing
replaced : (slot : List ℕ × Option Entry) (behind : Slots) → IsReplaced slot behind → LeaveAlike (slot ∷ behind) behind
replaced slot [] none = absurd none
replaced slot (next ∷ behind) same = λ before q.
    alike_from behind (λ r. cond (eq_by_cmp by_bytes next.0 r) (Some next.1) (cond (eq_by_cmp by_bytes slot.0 r) (Some slot.1) (before r))) (λ r. cond (eq_by_cmp by_bytes next.0 r) (Some next.1) (before r)) q
    (ap (λ (k : List ℕ). cond (eq_by_cmp by_bytes next.0 q) (Some next.1) (cond (eq_by_cmp by_bytes k q) (Some slot.1) (before q))) (sym same) ∙ cond_twice (eq_by_cmp by_bytes next.0 q) (Some next.1) (Some slot.1) (before q))

in_turn : (kept behind : Slots) (before : List ℕ → Option (Option Entry)) (q : List ℕ)
    → update_all (eq_by_cmp by_bytes) before (kept ++ behind) q ≡ update_all (eq_by_cmp by_bytes) (update_all (eq_by_cmp by_bytes) before kept) behind q
in_turn [] behind before q = refl
in_turn (s ∷ kept) behind before q = in_turn kept behind (λ r. cond (eq_by_cmp by_bytes s.0 r) (Some s.1) (before r)) q

pub one_left_out : (kept behind : Slots) (slot : List ℕ × Option Entry) → IsReplaced slot behind → LeaveAlike (kept ++ behind) (kept ++ slot ∷ behind)
one_left_out kept behind slot is = λ before q.
    in_turn kept behind before q ∙ sym (replaced slot behind is (update_all (eq_by_cmp by_bytes) before kept) q) ∙ sym (in_turn kept (slot ∷ behind) before q)

pub one_kept : (kept behind new : Slots) (slot copy : List ℕ × Option Entry) → copy ≡ slot → new ≡ kept ++ copy ∷ [] → LeaveAlike (new ++ behind) (kept ++ slot ∷ behind)
one_kept kept behind new slot copy same pushed = λ before q.
    ap (λ (slots : Slots). update_all (eq_by_cmp by_bytes) before slots q) (ap (λ (slots : Slots). slots ++ behind) pushed ∙ append_assoc kept (copy ∷ []) behind ∙ ap (λ (s : List ℕ × Option Entry). kept ++ s ∷ behind) same)

pub one_passed : (kept behind new rest all : Slots) (slot : List ℕ × Option Entry) → rest ≡ slot ∷ behind → LeaveAlike (kept ++ rest) all → LeaveAlike (new ++ behind) (kept ++ slot ∷ behind) → LeaveAlike (new ++ behind) all
one_passed kept behind new rest all slot first so_far alike = λ before q.
    alike before q ∙ ap (λ (slots : Slots). update_all (eq_by_cmp by_bytes) before (kept ++ slots) q) (sym first) ∙ so_far before q

pub all_passed : (kept rest all : Slots) → rest ≡ [] → LeaveAlike (kept ++ rest) all → LeaveAlike kept all
all_passed kept rest all none so_far = λ before q.
    ap (λ (slots : Slots). update_all (eq_by_cmp by_bytes) before slots q) (sym (append-nil kept) ∙ ap (λ (slots : Slots). kept ++ slots) (sym none)) ∙ so_far before q

-- a map that is made of slots by their fronts, but for some that are replaced, has them in order, the last one of each key
pub made_of : (slots sorted kept : Slots) → AreByFronts slots sorted → LeaveAlike kept sorted → (made : BTreeMap (List ℕ) (Option Entry)) → IsFromIterResult by_bytes kept made → made.entries ≡ gathered [] slots
made_of slots sorted kept stable alike made is =
    same_slots made.entries (gathered [] slots) (ascends made.entries is.1) (gathered_ascends [] slots tt)
    (λ q. is.0 q ∙ alike (λ _. None) q ∙ by_fronts_same slots sorted stable q ∙ sym (lookups [] slots (λ _. None) (λ r. refl) q))

-- ---- sizes
size_front : (key : List ℕ) (slot : Option Entry) (more : Standing) → size_of (in_front key slot more) ≡ size_in key slot + size_of more
size_front key None more = sym (zero-add (size_of more))
size_front key (Some entry) more = refl

-- the first of some slots, and the others
pub size_first : (left rest : Slots) (key : List ℕ) (slot : Option Entry) → left ≡ (key, slot) ∷ rest → size_of (standing left) ≡ size_in key slot + size_of (standing rest)
size_first left rest key slot first = ap (λ (slots : Slots). size_of (standing slots)) first ∙ size_front key slot (standing rest)
