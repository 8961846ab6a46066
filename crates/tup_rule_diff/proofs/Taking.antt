-- A graph takes the edits of a swap, one after another.
use Rattle.std.specs.Prelude.{◌≡◌, ◌⊎◌, ◌<◌, ◌≤◌, ◌+◌, ◌||◌, ℕ, zero, suc, Bool, true, false, cond, not, List, [], ◌∷◌, ◌++◌, Option, None, Some, All, Contains, filter, map, filter_map, length, count_by, option_map, slice_get, nat_eq, nat_le, nat_lt, unwrap_or}
use Rattle.std.proofs.Common.{refl, sym, ap, subst, ◌∙◌, inl, inr, append_assoc, length-append, arith}
use Rattle.std.specs.declared.cmp.Ordering.{Ordering}
use Rattle.std.specs.declared.cmp.Ordering.TheVariants.{Less, Equal, Greater}
use Rattle.std.specs.Ordering.{nat_cmp, is_lt, ordering_then}
use Rattle.std.specs.Cmp.{nat_cmp_is}
use Rattle.std.specs.List.{AllByRecursion, cons_option}
use Rattle.std.specs.FinMap as finite
use Rattle.std.proofs.Math.Dec.{eqb}
use Rattle.std.proofs.lemmas.Bool.{lt-ltb, eq-eqb, and_from, cases_eq, leb-false, true≢false}
use Rattle.std.proofs.lemmas.List.{length-take-le}
use Rattle.std.proofs.lemmas.List.Elements.{Contains-append_left, Contains-append_right, Contains-append_cases, recursion_from_All}
use Rattle.std.proofs.lemmas.List.Quantifiers.{position-Some}
use Rattle.std.proofs.lemmas.List.Sums.{fold-append}
use Rattle.std.proofs.lemmas.Option.{same_Some, slice_get_within}
use Rattle.tup_path.specs.Name.{Names}
use Rattle.tup_path.specs.Order.{by_bytes, by_names, by_names-antisymmetric, same_path}
use Rattle.tup_path.proofs.Same.{same_path-decides}
use Rattle.tup_rule.specs.Rule.{maker, writes}
use Rattle.tup_rule.specs.declared.question.Reading.{Reading}
use Rattle.tup_rule.specs.declared.rule.Rule.{Rule}
use Rattle.tup_record.specs.declared.owned.OwnedState.TheVariants.{Never}
use Rattle.tup_record.specs.declared.record.Record.{Record}
use Rattle.tup_record.specs.declared.record.Record.TheVariants as records
use Rattle.tup_record.specs.declared.run.RunRecord.{RunRecord}
use Rattle.tup_record.specs.Spelling.{Fits, KeyFits, key_of as spelled_key}
use Rattle.tup_table.specs.declared.change.Change.{Change}
use Rattle.tup_table.specs.Entries.{Standing, IsAscending, committed, key_of}
use Rattle.tup_graph.specs.declared.edit.Edit.{Edit}
use Rattle.tup_graph.specs.declared.edit.Edit.TheVariants.{Put, Remove}
use Rattle.tup_graph.specs.declared.owned.Owned.{Owned}
use Rattle.tup_graph.specs.Above.{AboveOver, HasReadOf}
use Rattle.tup_graph.specs.Changes.{changes_it, last_changes, once_made}
use Rattle.tup_graph.specs.Edits.{edited, edited_by, change_of, with_first, HasSpelling, IsBare, IsTaken, AreTakenInTurn}
use Rattle.tup_graph.specs.Graph.{GraphState, is_rule}
use Rattle.tup_graph.specs.Opening.{fits, comes_behind, last_of, IsGraphOf}
use Rattle.tup_graph.specs.Swap.{owned_now, ReadsNew}
use Rattle.tup_graph.specs.Transactions.{flag_edits}
use Rattle.tup_graph.proofs.Bare.{level_of}
use Rattle.tup_graph.proofs.Marks.{mark_of, one_mark, one_number, one_path}
use Rattle.tup_graph.proofs.Needed.{needed_read}
use Rattle.tup_graph.proofs.Turns.{turns_read, taken_so, taken_both}
use Rattle.tup_readers.proofs.Entries.{in_front, behind_front, front_or_behind, none_in}
use Rattle.tup_scan_diff.proofs.Editing.{filter_in, found_entry}
use Rattle.tup_scan_diff.proofs.Paths.{last_item}
use Rattle.tup_rule_diff.specs.Edits.{AreSwapEdits, unflag, uncreate, unrun, unrun_edits, clear_edits, goes, unread, read_so, reading_edits, less_edits, no_rule, rule_less, more_edits, rule_more, place_behind, run_so, own_so, IsRunNow, IsToRun}
use Rattle.tup_rule_diff.specs.Order.{AreByFolder}
use Rattle.tup_rule_diff.proofs.Leaving.{Owners, places_behind, led_graph, left, edits_of, read_anew, bare, ruled, run_again, owned_again, is_last, leaves_all, leaves_read, leaves_bare, leaves_ruled, leaves_run, leaves_owned}
use Rattle.tup_rule_diff.proofs.News.{needed_same}
use Rattle.tup_rule_diff.proofs.Stood.{changes_nothing, owner_stands, run_stands}
use Rattle.tup_rule_diff.proofs.Covered.{Covered, Last, after, after_both, all_left_out, covers, last_as, mapped, rules_left_out}
use Rattle.tup_rule_diff.proofs.Swapping.{edits_leave, one_run, owned_come, run_is, to_run}
use Rattle.tup_rule_diff.proofs.Whole.{all_cleared, unown, unrun_so, whole_clear, whole_clears, whole_less, whole_less_leaves}

-- ---- spellings of two lists of edits
front : (xs ys : List Edit) → AllByRecursion HasSpelling (xs ++ ys) → AllByRecursion HasSpelling xs
front [] ys all = tt
front (x ∷ xs) ys all = (all.0, front xs ys all.1)

rest : (xs ys : List Edit) → AllByRecursion HasSpelling (xs ++ ys) → AllByRecursion HasSpelling ys
rest [] ys all = all
rest (x ∷ xs) ys all = rest xs ys all.1

joined : (P : Edit → Type 0) (xs ys : List Edit) → AllByRecursion P xs → AllByRecursion P ys → AllByRecursion P (xs ++ ys)
joined P [] ys one two = two
joined P (x ∷ xs) ys one two = (one.0, joined P xs ys one.1 two)

-- edits that leave a graph, and others that it takes then
then : (g h : GraphState) (xs ys : List Edit) → AreTakenInTurn g xs → edited_by g xs ≡ h → AreTakenInTurn h ys → AreTakenInTurn g (xs ++ ys)
then g h xs ys one leaves two = taken_both g xs ys one (subst (λ (k : GraphState). AreTakenInTurn k ys) (sym leaves) two)

-- ---- what is taken away, and readings
module _ (h : GraphState) where
  unflagged : (es : List (ℕ × Unit {0})) → AllByRecursion HasSpelling (map unflag es) → AllByRecursion (IsTaken h) (map unflag es)
  unflagged [] all = tt
  unflagged (e ∷ es) all = ((tt, all.0), unflagged es all.1)

  uncreated : (es : List (Names × Unit {0})) → AllByRecursion HasSpelling (map uncreate es) → AllByRecursion (IsTaken h) (map uncreate es)
  uncreated [] all = tt
  uncreated (e ∷ es) all = ((tt, all.0), uncreated es all.1)

  unowned : (es : List (Names × Owned)) → AllByRecursion HasSpelling (map unown es) → AllByRecursion (IsTaken h) (map unown es)
  unowned [] all = tt
  unowned (e ∷ es) all = ((tt, all.0), unowned es all.1)

  unrecorded : (es : List (ℕ × RunRecord)) → AllByRecursion HasSpelling (map unrun es) → AllByRecursion (IsTaken h) (map unrun es)
  unrecorded [] all = tt
  unrecorded (e ∷ es) all = ((tt, all.0), unrecorded es all.1)

  unrun_again : (es : List (ℕ × RunRecord)) → AllByRecursion HasSpelling (map unrun_so es) → AllByRecursion (IsTaken h) (map unrun_so es)
  unrun_again [] all = tt
  unrun_again (e ∷ es) all = ((tt, all.0), unrun_again es all.1)

  readings_gone : (g : GraphState) (gone : List Names) → AllByRecursion HasSpelling (filter_map (unread g) gone) → AllByRecursion (IsTaken h) (filter_map (unread g) gone)
  readings_gone g [] all = tt
  readings_gone g (dir ∷ gone) all = by (finite.get g.readings dir) (readings_gone g gone) all
    where
      by : (found : Option Reading) → (AllByRecursion HasSpelling (filter_map (unread g) gone) → AllByRecursion (IsTaken h) (filter_map (unread g) gone))
          → AllByRecursion HasSpelling (cons_option (option_map (λ (reading : Reading). Remove (records.Reading dir reading)) found) (filter_map (unread g) gone)) → AllByRecursion (IsTaken h) (cons_option (option_map (λ (reading : Reading). Remove (records.Reading dir reading)) found) (filter_map (unread g) gone))
      by None next all = next all
      by (Some reading) next all = ((tt, all.0), next all.1)

  readings_new : (fresh : List (Names × Reading)) → AllByRecursion HasSpelling (map read_so fresh) → AllByRecursion (IsTaken h) (map read_so fresh)
  readings_new [] all = tt
  readings_new (one ∷ fresh) all = ((tt, all.0, refl), readings_new fresh all.1)

clear_taken : (kept : ℕ → Bool) (g : GraphState) (owned : Owners) (again : List (ℕ × RunRecord)) → AllByRecursion HasSpelling (whole_clear kept g owned again) → AreTakenInTurn g (whole_clear kept g owned again)
clear_taken kept g owned again all =
    let flags = map unflag (finite.entries g.flags) in
    let created = map uncreate (finite.entries g.created) in
    let paths = map unown (finite.entries owned) in
    let runs = unrun_edits kept (finite.entries g.runs) in
    let others = map unrun_so again in
    let four = front (flags ++ created ++ paths ++ runs) others all in
    let three = front (flags ++ created ++ paths) runs four in
    let two = front (flags ++ created) paths three in
    taken_so g (whole_clear kept g owned again)
    (joined (IsTaken g) (flags ++ created ++ paths ++ runs) others
    (joined (IsTaken g) (flags ++ created ++ paths) runs
    (joined (IsTaken g) (flags ++ created) paths
    (joined (IsTaken g) flags created (unflagged g (finite.entries g.flags) (front flags created two)) (uncreated g (finite.entries g.created) (rest flags created two)))
    (unowned g (finite.entries owned) (rest (flags ++ created) paths three)))
    (unrecorded g (filter (λ (run : ℕ × RunRecord). not (kept run.0)) (finite.entries g.runs)) (rest (flags ++ created ++ paths) runs four)))
    (unrun_again g again (rest (flags ++ created ++ paths ++ runs) others all)))

reading_taken : (h g : GraphState) (fresh : List (Names × Reading)) (gone : List Names) → AllByRecursion HasSpelling (reading_edits g fresh gone) → AreTakenInTurn h (reading_edits g fresh gone)
reading_taken h g fresh gone all =
    taken_so h (reading_edits g fresh gone)
    (joined (IsTaken h) (filter_map (unread g) gone) (map read_so fresh) (readings_gone h g gone (front (filter_map (unread g) gone) (map read_so fresh) all))
    (readings_new h fresh (rest (filter_map (unread g) gone) (map read_so fresh) all)))

-- ---- rules go
bare_first : (h : GraphState) (n : ℕ) → IsBare h → IsBare (with_first h n)
bare_first h n is = record { runs = is.runs; owned = is.owned; created = is.created; flags = is.flags }

less_taken : (h : GraphState) (n : ℕ) (rules : List Rule) → IsBare h → length h.rules ≡ n + length rules → length h.places ≡ n + length rules → AllByRecursion HasSpelling (whole_less n rules) → AreTakenInTurn h (whole_less n rules)
less_taken h n [] is many level all = tt
less_taken h n (rule ∷ rules) is many level all =
    then h (with_first h (suc n)) (whole_less (suc n) rules) (rule_less n ∷ [])
    (less_taken h (suc n) rules is (omega (arith, many)) (omega (arith, level)) (front (whole_less (suc n) rules) (rule_less n ∷ []) all))
    (whole_less_leaves h (suc n) rules (omega (arith, many)) (omega (arith, level))) (
      inr (record {
        number = n;
        place = 0;
        rule = no_rule;
        bare = bare_first h (suc n) is;
        spelled = (rest (whole_less (suc n) rules) (rule_less n ∷ []) all).0;
        one = inl (refl, length-take-le (suc n) h.rules (omega (arith, many)));
      }),
      tt,
    )

-- ---- rules come
places_more : (before rules : List Rule) (rule : Rule) → places_behind before (rules ++ rule ∷ []) ≡ places_behind before rules ++ place_behind (before ++ rules) rule ∷ []
places_more before [] rule = ap (λ (l : List Rule). place_behind l rule ∷ []) (sym (append_nil before))
  where
    append_nil : (l : List Rule) → l ++ [] ≡ l
    append_nil [] = refl
    append_nil (x ∷ l) = ap (λ (m : List Rule). x ∷ m) (append_nil l)
places_more before (first ∷ rules) rule =
    ap (λ (l : List ℕ). place_behind before first ∷ l)
    (places_more (before ++ first ∷ []) rules rule ∙ ap (λ (l : List Rule). places_behind (before ++ first ∷ []) rules ++ place_behind l rule ∷ []) (append_assoc before (first ∷ []) rules))

at_front : {X : Type 0} (xs ys : List X) (x : X) → slice_get (xs ++ x ∷ ys) (length xs) ≡ Some x
at_front [] ys x = refl
at_front (y ∷ xs) ys x = at_front xs ys x

at_next : {X : Type 0} (xs ys : List X) (x y : X) → slice_get (xs ++ x ∷ y ∷ ys) (suc (length xs)) ≡ Some y
at_next [] ys x y = refl
at_next (z ∷ xs) ys x y = at_next xs ys x y

last_is : {X : Type 0} (xs : List X) (x : X) → last_of (xs ++ x ∷ []) ≡ Some x
last_is xs x = ap (slice_get (xs ++ x ∷ [])) (omega (arith, length-append xs (x ∷ []))) ∙ at_front xs [] x

pub one_more : (p : Rule → Bool) (xs : List Rule) (x : Rule) → count_by p (xs ++ x ∷ []) ≡ count_by p xs + cond (p x) 1 0
one_more p xs x = fold-append (λ (count : ℕ) (y : Rule). count + cond (p y) 1 0) 0 xs (x ∷ [])

module _ (earlier : List Rule) (last rule : Rule) (ordered : by_names last.dir rule.dir ≡ Greater → ⊥) where
  comes : comes_behind (Some last) (Some (place_behind earlier last)) rule (place_behind (earlier ++ last ∷ []) rule) ≡ true
  comes = by (by_names last.dir rule.dir) refl
    where
      higher : last.dir ≡ rule.dir → place_behind earlier last < place_behind (earlier ++ last ∷ []) rule
      higher same =
          let counted = one_more (λ (other : Rule). same_path other.dir rule.dir) earlier last in
          let here : same_path last.dir rule.dir ≡ true = ap (λ (dir : Names). same_path dir rule.dir) same ∙ (same_path-decides rule.dir rule.dir).1 refl in
          let alike : place_behind earlier last ≡ place_behind earlier rule = ap (λ (dir : Names). count_by (λ (other : Rule). same_path other.dir dir) earlier) same in
          omega (arith, counted ∙ ap (λ (b : Bool). place_behind earlier rule + cond b 1 0) here, alike)

      by : (o : Ordering) → by_names last.dir rule.dir ≡ o → is_lt (ordering_then o (nat_cmp (place_behind earlier last) (place_behind (earlier ++ last ∷ []) rule))) ≡ true
      by Less is = refl
      by Equal is = ap is_lt (sym (nat_cmp_is (place_behind earlier last) (place_behind (earlier ++ last ∷ []) rule) Less (higher (by_names-antisymmetric last.dir rule.dir is))))
      by Greater is = absurd (ordered is)

-- a rule fits behind those before it
rule_fits : (before more : List Rule) (rule : Rule) → AreByFolder (before ++ rule ∷ more) → comes_behind (last_of before) (last_of (places_behind [] before)) rule (place_behind before rule) ≡ true
rule_fits before more rule ordered = by (last_item before)
  where
    by : (before ≡ []) ⊎ ((earlier : List Rule) × (last : Rule) × (before ≡ earlier ++ last ∷ [])) → comes_behind (last_of before) (last_of (places_behind [] before)) rule (place_behind before rule) ≡ true
    by (inl none) = subst (λ (l : List Rule). comes_behind (last_of l) (last_of (places_behind [] l)) rule (place_behind l rule) ≡ true) (sym none) refl
    by (inr (earlier, last, is)) =
        let whole : before ++ rule ∷ more ≡ earlier ++ last ∷ rule ∷ more = ap (λ (l : List Rule). l ++ rule ∷ more) is ∙ append_assoc earlier (last ∷ []) (rule ∷ more) in
        let not_back = ordered (length earlier) last rule (ap (λ (l : List Rule). slice_get l (length earlier)) whole ∙ at_front earlier (rule ∷ more) last)
        (ap (λ (l : List Rule). slice_get l (suc (length earlier))) whole ∙ at_next earlier more last rule) in
        subst (λ (l : List Rule). comes_behind (last_of l) (last_of (places_behind [] l)) rule (place_behind l rule) ≡ true) (sym is)
        (ap (λ (x : Option Rule × Option ℕ). comes_behind x.0 x.1 rule (place_behind (earlier ++ last ∷ []) rule))
        (λ i. (last_is earlier last i, (ap last_of (places_more [] earlier last) ∙ last_is (places_behind [] earlier) (place_behind earlier last)) i))
        ∙ comes earlier last rule not_back)

more_taken : (h : GraphState) (before rules : List Rule) → IsBare h → h.rules ≡ before → h.places ≡ places_behind [] before → AreByFolder (before ++ rules) → AllByRecursion HasSpelling (more_edits before rules)
    → AreTakenInTurn h (more_edits before rules)
more_taken h before [] is here level ordered all = tt
more_taken h before (rule ∷ rules) is here level ordered all = (
  inr (record {
    number = length before;
    place = place_behind before rule;
    rule = rule;
    bare = is;
    spelled = all.0;
    one = inr (
      refl,
      and_from (eqb (length before) (length h.rules)) (comes_behind (last_of h.rules) (last_of h.places) rule (place_behind before rule))
          (eq-eqb (length before) (length h.rules) (sym (ap length here)))
          (ap (λ (x : List Rule × List ℕ). comes_behind (last_of x.0) (last_of x.1) rule (place_behind before rule)) (λ i. (here i, level i)) ∙ rule_fits before rules rule ordered),
    );
  }),
  more_taken (edited h (rule_more (length before) (place_behind before rule) rule)) (before ++ rule ∷ []) rules
      (record { runs = is.runs; owned = is.owned; created = is.created; flags = is.flags })
      (ap (λ (l : List Rule). l ++ rule ∷ []) here)
      (ap (λ (l : List ℕ). l ++ place_behind before rule ∷ []) level ∙ sym (places_more [] before rule))
      (subst AreByFolder (sym (append_assoc before (rule ∷ []) rules)) ordered) all.1,
)

-- ---- what names rules
within : (rules : List Rule) (n : ℕ) (rule : Rule) → slice_get rules n ≡ Some rule → nat_lt n (length rules) ≡ true
within rules n rule here = lt-ltb n (length rules) (slice_get_within rules n rule here)

made_within : (rules : List Rule) (path : Names) (n : ℕ) → maker path rules ≡ Some n → nat_lt n (length rules) ≡ true
made_within [] path n made = absurd (let wrong : None ≡ Some n = made in cc)
made_within (rule ∷ rules) path n made = lt-ltb n (length (rule ∷ rules)) (position-Some (λ (r : Rule). writes r path) (rule ∷ rules) n rule made).0

-- the maker of an owned path is the rule that makes it
abbrev maker_in : Option Owned → Option ℕ
maker_in None = None
maker_in (Some one) = one.maker

makers_are : (rules : List Rule) (path : Names) (before : Option Owned) (one : Owned) → owned_now rules path before ≡ Some one → maker path rules ≡ one.maker
makers_are rules path before one is = by (maker path rules) before ∙ ap maker_in is
  where
    by : (found : Option ℕ) (before : Option Owned) → found ≡ maker_in (elim found [
      | Some number ↦ Some (record { maker = Some number; state = unwrap_or (option_map (λ (owned : Owned). owned.state) before) Never })
      | None ↦ option_map (λ (owned : Owned). record { maker = None; state = owned.state }) before
    ])
    by (Some number) before = refl
    by None None = refl
    by None (Some owned) = refl

module _ (h : GraphState) where
  run_taken : (runs : List (ℕ × RunRecord)) → ((number : ℕ) (run : RunRecord) → Contains runs (number, run) → is_rule h number ≡ true) → AllByRecursion HasSpelling (map run_so runs) → AllByRecursion (IsTaken h) (map run_so runs)
  run_taken [] named all = tt
  run_taken (run ∷ runs) named all = (
    (tt, all.0, named run.0 run.1 (in_front run runs)),
    run_taken runs (λ number other there. named number other (behind_front run (number, other) runs there)) all.1,
  )

  own_taken : (owned : List (Names × Owned)) → ((path : Names) (one : Owned) → Contains owned (path, one) → (n : ℕ) → one.maker ≡ Some n → is_rule h n ≡ true) → AllByRecursion HasSpelling (map own_so owned)
      → AllByRecursion (IsTaken h) (map own_so owned)
  own_taken [] named all = tt
  own_taken (one ∷ owned) named all = (
    (tt, all.0, by one.1.maker refl),
    own_taken owned (λ path other there. named path other (behind_front one (path, other) owned there)) all.1,
  )
    where
      by : (m : Option ℕ) → one.1.maker ≡ m → fits h (records.Owned one.0 m one.1.state) ≡ true
      by None is = refl
      by (Some n) is = named one.0 one.1 (in_front one owned) n is

  flag_taken : (numbers : List ℕ) → ((number : ℕ) → Contains numbers number → is_rule h number ≡ true) → AllByRecursion HasSpelling (flag_edits numbers) → AllByRecursion (IsTaken h) (flag_edits numbers)
  flag_taken [] named all = tt
  flag_taken (number ∷ numbers) named all = (
    (tt, all.0, named number (in_front number numbers)),
    flag_taken numbers (λ other there. named other (behind_front number other numbers there)) all.1,
  )

-- ---- what is left out is spelled where the rest is
unown_spelled : (es : List (Names × Owned)) → AllByRecursion HasSpelling (map own_so es) → AllByRecursion HasSpelling (map unown es)
unown_spelled [] all = tt
unown_spelled (e ∷ es) all = (all.0, unown_spelled es all.1)

unrun_spelled : (es : List (ℕ × RunRecord)) → AllByRecursion HasSpelling (map run_so es) → AllByRecursion HasSpelling (map unrun_so es)
unrun_spelled [] all = tt
unrun_spelled (e ∷ es) all = (all.0, unrun_spelled es all.1)

-- the number of a rule that comes
number_spelled : (before rules : List Rule) → AllByRecursion HasSpelling (more_edits before rules) → (k : ℕ) → k < length rules → KeyFits (records.Rule (length before + k) 0 no_rule)
number_spelled before [] all k less = absurd (omega (arith, less))
number_spelled before (rule ∷ rules) all zero less = subst (λ (n : ℕ). KeyFits (records.Rule n 0 no_rule)) (let same : length before ≡ length before + 0 = omega arith in same) all.0.0
number_spelled before (rule ∷ rules) all (suc k) less =
    subst (λ (n : ℕ). KeyFits (records.Rule n 0 no_rule)) (let longer = length-append before (rule ∷ []) in let same : length (before ++ rule ∷ []) + k ≡ length before + suc k = omega (arith, longer) in same)
    (number_spelled (before ++ rule ∷ []) rules all.1 k (omega (arith, less)))

-- a rule that goes
less_spelled : (count n : ℕ) (rules : List Rule) → AllByRecursion HasSpelling (less_edits count n rules) → (k : ℕ) → n ≤ k → k < n + length rules → goes count k ≡ true → Fits (records.Rule k 0 no_rule)
less_spelled count n [] all k from less it = absurd (omega (arith, from, less))
less_spelled count n (rule ∷ rules) all k from less it = elim (cases_eq k n) [
  | inl same ↦ here (goes count n) (sym (ap (goes count) same) ∙ it) (rest (less_edits count (suc n) rules) (cond (goes count n) (rule_less n ∷ []) []) all) same
  | inr apart ↦ less_spelled count (suc n) rules (front (less_edits count (suc n) rules) (cond (goes count n) (rule_less n ∷ []) []) all) k (omega (arith, from, apart)) (omega (arith, less)) it
]
  where
    here : (b : Bool) → b ≡ true → AllByRecursion HasSpelling (cond b (rule_less n ∷ []) []) → k ≡ n → Fits (records.Rule k 0 no_rule)
    here true is all same = subst (λ (m : ℕ). Fits (records.Rule m 0 no_rule)) (sym same) all.0
    here false is all same = absurd (let wrong : false ≡ true = is in cc)

whole_spelled : (n : ℕ) (rules : List Rule) → ((k : ℕ) → n ≤ k → k < n + length rules → Fits (records.Rule k 0 no_rule)) → AllByRecursion HasSpelling (whole_less n rules)
whole_spelled n [] fit = tt
whole_spelled n (rule ∷ rules) fit = joined HasSpelling (whole_less (suc n) rules) (rule_less n ∷ []) (whole_spelled (suc n) rules (λ k from less. fit k (omega (arith, from)) (omega (arith, less)))) (fit n (omega arith) (omega arith), tt)

-- a rule that comes, among those that do
rule_comes : (before rules : List Rule) (k : ℕ) → k < length rules → (edit : Edit) × Contains (more_edits before rules) edit × (key_of (change_of edit) ≡ key_of (change_of (rule_less (length before + k))))
rule_comes before [] k less = absurd (omega (arith, less))
rule_comes before (rule ∷ rules) zero less =
    let first = rule_more (length before) (place_behind before rule) rule in
    (first, in_front first (more_edits (before ++ rule ∷ []) rules), ap (λ (n : ℕ). key_of (change_of (rule_less n))) (let same : length before ≡ length before + 0 = omega arith in same))
rule_comes before (rule ∷ rules) (suc k) less =
    let first = rule_more (length before) (place_behind before rule) rule in
    let later = rule_comes (before ++ rule ∷ []) rules k (omega (arith, less)) in
    let longer = length-append before (rule ∷ []) in (
      later.0,
      behind_front first later.0 (more_edits (before ++ rule ∷ []) rules) later.1,
      later.2 ∙ ap (λ (n : ℕ). key_of (change_of (rule_less n))) (let same : length (before ++ rule ∷ []) + k ≡ length before + suc k = omega (arith, longer) in same),
    )

-- what stays is below the count
stays_below : (count k : ℕ) → goes count k ≡ false → k < count
stays_below count k stays = leb-false count k (by (nat_eq k 0) (nat_le count k) stays)
  where
    by : (a b : Bool) → (a || b) ≡ false → b ≡ false
    by true b e = absurd (let wrong : true ≡ false = e in cc)
    by false b e = e

-- each of a list is spelled where it or all are
member_spelled : {X : Type 0} (f : X → Edit) (xs : List X) (x : X) → AllByRecursion HasSpelling (map f xs) → Contains xs x → HasSpelling (f x)
member_spelled f [] x all h = absurd (none_in x h)
member_spelled f (first ∷ xs) x all h = elim (front_or_behind first x xs h) [
  | inl same ↦ subst (λ y. HasSpelling (f y)) same all.0
  | inr later ↦ member_spelled f xs x all.1 later
]

each_spelled : {X : Type 0} (f : X → Edit) (xs : List X) → ((x : X) → Contains xs x → HasSpelling (f x)) → AllByRecursion HasSpelling (map f xs)
each_spelled f [] each = tt
each_spelled f (x ∷ xs) each = (each x (in_front x xs), each_spelled f xs (λ y h. each y (behind_front x y xs h)))

as_they_are : (edits : List Edit) → AllByRecursion HasSpelling edits → AllByRecursion HasSpelling (map (λ (e : Edit). e) edits)
as_they_are [] all = tt
as_they_are (e ∷ edits) all = (all.0, as_they_are edits all.1)

-- the record of an edit, and the mark of its key
abbrev record_of : Edit → Record
record_of (Put r) = r
record_of (Remove r) = r

abbrev IsMarked : ℕ → Edit → Type 0
IsMarked mark edit = mark_of (record_of edit) ≡ mark

all_marked : (mark : ℕ) {X : Type 0} (f : X → Edit) (xs : List X) → ((x : X) → IsMarked mark (f x)) → (edit : Edit) → Contains (map f xs) edit → IsMarked mark edit
all_marked mark f xs each edit h = let found = mapped f xs edit h in subst (IsMarked mark) found.2 (each found.0)

record_key : (edit : Edit) → key_of (change_of edit) ≡ spelled_key (record_of edit)
record_key (Put r) = refl
record_key (Remove r) = refl

in_mapped : {X : Type 0} (f : X → Edit) (xs : List X) (x : X) → Contains xs x → Contains (map f xs) (f x)
in_mapped f [] x h = absurd (none_in x h)
in_mapped f (first ∷ xs) x h = elim (front_or_behind first x xs h) [
  | inl same ↦ subst (λ y. Contains (map f (first ∷ xs)) (f y)) same (in_front (f first) (map f xs))
  | inr later ↦ behind_front (f first) (f x) (map f xs) (in_mapped f xs x later)
]

module _ (g : GraphState) (fresh : List (Names × Reading)) (gone : List Names) (rules : List Rule) (edits : List Edit) (are : AreSwapEdits g fresh gone rules edits) where
  run_named : (number : ℕ) (run : RunRecord) → Contains are.runs (number, run) → nat_lt number (length rules) ≡ true
  run_named number run there = let now = (are.runs_are number run).0 there in within rules number now.0 now.2

  owner_named : (path : Names) (one : Owned) → Contains (finite.entries are.owned) (path, one) → (n : ℕ) → one.maker ≡ Some n → nat_lt n (length rules) ≡ true
  owner_named path one there n made = made_within rules path n (makers_are rules path (finite.get g.owned path) one (sym (are.owned_are path) ∙ found_entry are.owned path one there) ∙ made)

  flag_named : (number : ℕ) → Contains are.flags number → nat_lt number (length rules) ≡ true
  flag_named number there = by (to_run g fresh gone rules edits are number there)
    where
      reads : (made_by : Rule) → HasReadOf (led_graph rules are.runs) number made_by → nat_lt number (length rules) ≡ true
      reads made_by (path, (run, given, ran, asked), wrote) = let now = run_is g fresh gone rules edits are number run ran in within rules number now.0 now.2

      over : (steps : ℕ) → AboveOver steps (led_graph rules are.runs) (ReadsNew g (led_graph rules are.runs)) number → nat_lt number (length rules) ≡ true
      over zero (other, made_by, there, new, read) = reads made_by read
      over (suc steps) (before, made_by, above, here, read) = reads made_by read

      by : IsToRun g (led_graph rules are.runs) number → nat_lt number (length rules) ≡ true
      by (inl (rule, here, why)) = within rules number rule here
      by (inr (steps, above)) = over steps above

  -- ---- all of it, with what is left out
  abbrev flags_go : List Edit
  flags_go = map unflag (finite.entries g.flags) ++ map uncreate (finite.entries g.created)

  abbrev runs_go : List Edit
  runs_go = unrun_edits are.kept (finite.entries g.runs)

  abbrev whole : List Edit
  whole = edits_of g fresh gone rules are.runs are.owned are.flags (whole_clear are.kept g are.owned are.runs) (whole_less 0 g.rules) finite.empty finite.empty

  abbrev fewer : List Edit
  fewer = edits_of g fresh gone rules are.runs are.owned are.flags (clear_edits are.kept g) (less_edits (length rules) 0 g.rules) g.owned (left are.kept g.runs)

  -- what comes
  abbrev comes_last : List Edit
  comes_last = more_edits [] rules ++ (map run_so are.runs ++ (map own_so (finite.entries are.owned) ++ flag_edits are.flags))

  -- what comes behind some edits
  in_line : (clear less : List Edit) → edits_of g fresh gone rules are.runs are.owned are.flags clear less finite.empty finite.empty ≡ clear ++ (reading_edits g fresh gone ++ (less ++ comes_last))
  in_line clear less =
      let read = reading_edits g fresh gone in
      let more = more_edits [] rules in
      let ran = map run_so are.runs in
      let owns = map own_so (finite.entries are.owned) in
      let flagged = flag_edits are.flags in
      append_assoc (clear ++ read ++ less ++ more ++ ran) owns flagged
      ∙ append_assoc (clear ++ read ++ less ++ more) ran (owns ++ flagged)
      ∙ append_assoc (clear ++ read ++ less) more (ran ++ (owns ++ flagged))
      ∙ append_assoc (clear ++ read) less comes_last
      ∙ append_assoc clear read (less ++ comes_last)

  run_comes : (number : ℕ) → are.kept number ≡ true → (run : RunRecord) × Contains are.runs (number, run)
  run_comes number is = let now = (are.kept_are number).0 is in (now.0, (are.runs_are number now.0).1 now.1)

  rule_again : (k : ℕ) → k < length rules → Covered comes_last (rule_less k)
  rule_again k less =
      let there = rule_comes [] rules k less in
      covers comes_last there.0 (rule_less k) (Contains-append_left (more_edits [] rules) (map run_so are.runs ++ (map own_so (finite.entries are.owned) ++ flag_edits are.flags)) there.0 there.1)
      (there.2 ∙ ap (λ (n : ℕ). key_of (change_of (rule_less n))) (let same : 0 + k ≡ k = omega arith in same))

  run_again_so : (front_edits : List Edit) (edit : Edit) → Contains (map unrun_so are.runs) edit → Covered (front_edits ++ comes_last) edit
  run_again_so front_edits edit h =
      let run = mapped unrun_so are.runs edit h in
      covers (front_edits ++ comes_last) (run_so run.0) edit
      (Contains-append_right front_edits comes_last (run_so run.0)
      (Contains-append_right (more_edits [] rules) (map run_so are.runs ++ (map own_so (finite.entries are.owned) ++ flag_edits are.flags)) (run_so run.0)
      (Contains-append_left (map run_so are.runs) (map own_so (finite.entries are.owned) ++ flag_edits are.flags) (run_so run.0) (in_mapped run_so are.runs run.0 run.1))))
      (ap (λ (e : Edit). key_of (change_of e)) run.2)

  own_again_so : (front_edits : List Edit) (edit : Edit) → Contains (map unown (finite.entries are.owned)) edit → Covered (front_edits ++ comes_last) edit
  own_again_so front_edits edit h =
      let one = mapped unown (finite.entries are.owned) edit h in
      covers (front_edits ++ comes_last) (own_so one.0) edit
      (Contains-append_right front_edits comes_last (own_so one.0)
      (Contains-append_right (more_edits [] rules) (map run_so are.runs ++ (map own_so (finite.entries are.owned) ++ flag_edits are.flags)) (own_so one.0)
      (Contains-append_right (map run_so are.runs) (map own_so (finite.entries are.owned) ++ flag_edits are.flags) (own_so one.0)
      (Contains-append_left (map own_so (finite.entries are.owned)) (flag_edits are.flags) (own_so one.0) (in_mapped own_so (finite.entries are.owned) one.0 one.1)))))
      (ap (λ (e : Edit). key_of (change_of e)) one.2)

  -- the last changes are the same
  same_last : after finite.empty whole ≡ after finite.empty fewer
  same_last =
      let read = reading_edits g fresh gone in
      let owns = map unown (finite.entries are.owned) in
      let ran = map unrun_so are.runs in
      let rest_whole = whole_less 0 g.rules ++ comes_last in
      let rest_fewer = less_edits (length rules) 0 g.rules ++ comes_last in
      let start = after finite.empty flags_go in
      let next = after start runs_go in
      ap (after finite.empty) (in_line (whole_clear are.kept g are.owned are.runs) (whole_less 0 g.rules))
      ∙ ap (after finite.empty)
      (append_assoc (flags_go ++ owns ++ runs_go) ran (read ++ rest_whole) ∙ append_assoc (flags_go ++ owns) runs_go (ran ++ (read ++ rest_whole)) ∙ append_assoc flags_go owns (runs_go ++ (ran ++ (read ++ rest_whole))))
      ∙ after_both finite.empty flags_go (owns ++ (runs_go ++ (ran ++ (read ++ rest_whole))))
      ∙ ap (λ (l : List Edit). after start (owns ++ l)) (sym (whole_line runs_go ran read (whole_less 0 g.rules)))
      ∙ all_left_out owns ((runs_go ++ ran ++ read ++ whole_less 0 g.rules) ++ comes_last) start (own_again_so (runs_go ++ ran ++ read ++ whole_less 0 g.rules))
      ∙ ap (after start) (whole_line runs_go ran read (whole_less 0 g.rules))
      ∙ after_both start runs_go (ran ++ (read ++ rest_whole))
      ∙ ap (λ (l : List Edit). after next (ran ++ l)) (sym (append_assoc read (whole_less 0 g.rules) comes_last))
      ∙ all_left_out ran ((read ++ whole_less 0 g.rules) ++ comes_last) next (run_again_so (read ++ whole_less 0 g.rules))
      ∙ ap (after next) (append_assoc read (whole_less 0 g.rules) comes_last)
      ∙ after_both next read rest_whole
      ∙ rules_left_out (length rules) 0 g.rules comes_last (after next read) (λ k stays less. rule_again k (stays_below (length rules) k stays))
      ∙ sym (after_both next read rest_fewer)
      ∙ sym (after_both start runs_go (read ++ rest_fewer))
      ∙ sym (after_both finite.empty flags_go (runs_go ++ (read ++ rest_fewer)))
      ∙ ap (after finite.empty) (sym (append_assoc flags_go runs_go (read ++ rest_fewer)))
      ∙ ap (after finite.empty) (sym (in_line (clear_edits are.kept g) (less_edits (length rules) 0 g.rules)))
    where
      whole_line : (a b c d : List Edit) → (a ++ b ++ c ++ d) ++ comes_last ≡ a ++ (b ++ (c ++ (d ++ comes_last)))
      whole_line a b c d = append_assoc (a ++ b ++ c) d comes_last ∙ append_assoc (a ++ b) c (d ++ comes_last) ∙ append_assoc a b (c ++ (d ++ comes_last))

  -- ---- all of it is spelled
  all_spelled : AllByRecursion HasSpelling fewer → AllByRecursion HasSpelling whole
  all_spelled all =
      let read = reading_edits g fresh gone in
      let less = less_edits (length rules) 0 g.rules in
      let more = more_edits [] rules in
      let ran = map run_so are.runs in
      let owns = map own_so (finite.entries are.owned) in
      let flagged = flag_edits are.flags in
      let clear = clear_edits are.kept g in
      let all_owned = front (clear ++ read ++ less ++ more ++ ran ++ owns) flagged all in
      let all_run = front (clear ++ read ++ less ++ more ++ ran) owns all_owned in
      let all_more = front (clear ++ read ++ less ++ more) ran all_run in
      let all_less = front (clear ++ read ++ less) more all_more in
      let all_read = front (clear ++ read) less all_less in
      let all_clear = front clear read all_read in
      let owned_spelled = rest (clear ++ read ++ less ++ more ++ ran) owns all_owned in
      let run_spelled = rest (clear ++ read ++ less ++ more) ran all_run in
      let more_spelled = rest (clear ++ read ++ less) more all_more in
      let less_so = rest (clear ++ read) less all_less in
      joined HasSpelling (whole_clear are.kept g are.owned are.runs ++ read ++ whole_less 0 g.rules ++ more ++ ran ++ owns) flagged
      (joined HasSpelling (whole_clear are.kept g are.owned are.runs ++ read ++ whole_less 0 g.rules ++ more ++ ran) owns
      (joined HasSpelling (whole_clear are.kept g are.owned are.runs ++ read ++ whole_less 0 g.rules ++ more) ran
      (joined HasSpelling (whole_clear are.kept g are.owned are.runs ++ read ++ whole_less 0 g.rules) more
      (joined HasSpelling (whole_clear are.kept g are.owned are.runs ++ read) (whole_less 0 g.rules)
      (joined HasSpelling (whole_clear are.kept g are.owned are.runs) read
      (joined HasSpelling (flags_go ++ map unown (finite.entries are.owned) ++ runs_go) (map unrun_so are.runs)
      (joined HasSpelling (flags_go ++ map unown (finite.entries are.owned)) runs_go
      (joined HasSpelling flags_go (map unown (finite.entries are.owned)) (front flags_go runs_go all_clear) (unown_spelled (finite.entries are.owned) owned_spelled))
      (rest flags_go runs_go all_clear))
      (unrun_spelled are.runs run_spelled))
      (rest clear read all_read))
      (whole_spelled 0 g.rules (λ k from less_all. rule_spelled more_spelled less_so k less_all (goes (length rules) k) refl)))
      more_spelled)
      run_spelled)
      owned_spelled)
      (rest (clear ++ read ++ less ++ more ++ ran ++ owns) flagged all)
    where
      rule_spelled : AllByRecursion HasSpelling (more_edits [] rules) → AllByRecursion HasSpelling (less_edits (length rules) 0 g.rules) → (k : ℕ) → k < 0 + length g.rules → (b : Bool) → goes (length rules) k ≡ b → Fits (records.Rule k 0 no_rule)
      rule_spelled more less k within true it = less_spelled (length rules) 0 g.rules less k (omega arith) within it
      rule_spelled more less k within false stays =
          let first = less_spelled (length rules) 0 g.rules less 0 (omega arith) (omega (arith, within)) refl in
          (subst (λ (n : ℕ). KeyFits (records.Rule n 0 no_rule)) (let same : 0 + k ≡ k = omega arith in same) (number_spelled [] rules more k (stays_below (length rules) k stays)), first.1)

  -- ---- all of it is taken in turn
  abbrev read : GraphState
  read = read_anew g fresh gone rules are.runs are.owned are.flags (whole_clear are.kept g are.owned are.runs) (whole_less 0 g.rules) finite.empty finite.empty

  abbrev empty : GraphState
  empty = bare g fresh gone rules are.runs are.owned are.flags (whole_clear are.kept g are.owned are.runs) (whole_less 0 g.rules) finite.empty finite.empty

  abbrev told : GraphState
  told = ruled g fresh gone rules are.runs are.owned are.flags (whole_clear are.kept g are.owned are.runs) (whole_less 0 g.rules) finite.empty finite.empty

  abbrev again : GraphState
  again = run_again g fresh gone rules are.runs are.owned are.flags (whole_clear are.kept g are.owned are.runs) (whole_less 0 g.rules) finite.empty finite.empty

  abbrev owning : GraphState
  owning = owned_again g fresh gone rules are.runs are.owned are.flags (whole_clear are.kept g are.owned are.runs) (whole_less 0 g.rules) finite.empty finite.empty

  module _ (level : length g.places ≡ length g.rules) where
    clears_so : edited_by g (whole_clear are.kept g are.owned are.runs) ≡ all_cleared g
    clears_so = whole_clears g are.kept are.owned are.runs run_comes (owned_come g fresh gone rules edits are)

    lessens : edited_by read (whole_less 0 g.rules) ≡ empty
    lessens = whole_less_leaves read 0 g.rules (omega arith) (omega (arith, level))

    all_taken : AreByFolder rules → AllByRecursion HasSpelling whole → AreTakenInTurn g whole
    all_taken ordered all =
        let clear = whole_clear are.kept g are.owned are.runs in
        let less = whole_less 0 g.rules in
        let first = clear ++ reading_edits g fresh gone in
        let second = first ++ less in
        let third = second ++ more_edits [] rules in
        let fourth = third ++ map run_so are.runs in
        let fifth = fourth ++ map own_so (finite.entries are.owned) in
        let owned_all = front fifth (flag_edits are.flags) all in
        let run_all = front fourth (map own_so (finite.entries are.owned)) owned_all in
        let rule_all = front third (map run_so are.runs) run_all in
        let bare_all = front second (more_edits [] rules) rule_all in
        let read_all = front first less bare_all in
        then g owning fifth (flag_edits are.flags)
        (then g again fourth (map own_so (finite.entries are.owned))
        (then g told third (map run_so are.runs)
        (then g empty second (more_edits [] rules)
        (then g read first less
        (then g (all_cleared g) clear (reading_edits g fresh gone) (clear_taken are.kept g are.owned are.runs (front clear (reading_edits g fresh gone) read_all)) clears_so
        (reading_taken (all_cleared g) g fresh gone (rest clear (reading_edits g fresh gone) read_all)))
        (leaves_read g fresh gone rules are.runs are.owned are.flags clear less finite.empty finite.empty clears_so lessens)
        (less_taken read 0 g.rules (record { runs = refl; owned = refl; created = refl; flags = refl }) (omega arith) (omega (arith, level)) (rest first less bare_all)))
        (leaves_bare g fresh gone rules are.runs are.owned are.flags clear less finite.empty finite.empty clears_so lessens)
        (more_taken empty [] rules (record { runs = refl; owned = refl; created = refl; flags = refl }) refl refl ordered (rest second (more_edits [] rules) rule_all)))
        (leaves_ruled g fresh gone rules are.runs are.owned are.flags clear less finite.empty finite.empty clears_so lessens)
        (taken_so told (map run_so are.runs) (run_taken told are.runs run_named (rest third (map run_so are.runs) run_all))))
        (leaves_run g fresh gone rules are.runs are.owned are.flags clear less finite.empty finite.empty clears_so lessens)
        (taken_so again (map own_so (finite.entries are.owned)) (own_taken again (finite.entries are.owned) owner_named (rest fourth (map own_so (finite.entries are.owned)) owned_all))))
        (leaves_owned g fresh gone rules are.runs are.owned are.flags clear less finite.empty finite.empty clears_so lessens)
        (taken_so owning (flag_edits are.flags) (flag_taken owning are.flags flag_named (rest fifth (flag_edits are.flags) all)))

    -- it leaves what the edits leave
    whole_leaves : edited_by g whole ≡ edited_by g edits
    whole_leaves =
        leaves_all g fresh gone rules are.runs are.owned are.flags (whole_clear are.kept g are.owned are.runs) (whole_less 0 g.rules) finite.empty finite.empty clears_so lessens
        ∙ is_last g fresh gone rules are.runs are.owned are.flags (whole_clear are.kept g are.owned are.runs) (whole_less 0 g.rules) finite.empty finite.empty (λ q none. finite.get-empty nat_cmp q) (λ q none. finite.get-empty by_names q)
        ∙ sym (edits_leave g fresh gone rules edits are level)

  -- ---- what stands needn't be put
  abbrev short : List Edit
  short = clear_edits are.kept g ++ reading_edits g fresh gone ++ less_edits (length rules) 0 g.rules ++ more_edits [] rules ++ map run_so are.run_news ++ map own_so are.owned_news ++ flag_edits are.flags

  abbrev before_puts : List Edit
  before_puts = clear_edits are.kept g ++ reading_edits g fresh gone ++ less_edits (length rules) 0 g.rules ++ more_edits [] rules

  abbrev all_runs : List Edit
  all_runs = map run_so are.runs

  abbrev all_owned : List Edit
  all_owned = map own_so (finite.entries are.owned)

  abbrev new_runs : List Edit
  new_runs = map run_so are.run_news

  abbrev new_owned : List Edit
  new_owned = map own_so are.owned_news

  puts_line : (ran owns : List Edit) → before_puts ++ ran ++ owns ++ flag_edits are.flags ≡ before_puts ++ ((ran ++ owns) ++ flag_edits are.flags)
  puts_line ran owns =
      let flagged = flag_edits are.flags in
      append_assoc (before_puts ++ ran) owns flagged ∙ append_assoc before_puts ran (owns ++ flagged) ∙ ap (λ (l : List Edit). before_puts ++ l) (sym (append_assoc ran owns flagged))

  -- what comes before the puts is of other kinds, or takes away a record that isn't kept
  abbrev IsGone : Edit → Type 0
  IsGone edit = (run : ℕ × RunRecord) × (are.kept run.0 ≡ false) × (unrun run ≡ edit)

  abbrev IsOther : Edit → Type 0
  IsOther edit = (IsMarked 4 edit → ⊥) × (IsMarked 5 edit → ⊥)

  other_mark : (mark : ℕ) (edit : Edit) → (mark ≡ 4 → ⊥) → (mark ≡ 5 → ⊥) → IsMarked mark edit → IsOther edit
  other_mark mark edit four five is = (λ e. four (sym is ∙ e), λ e. five (sym is ∙ e))

  two_other : (edit : Edit) → IsMarked 2 edit → IsOther edit
  two_other edit = other_mark 2 edit (λ e. omega (arith, e)) (λ e. omega (arith, e))

  three_other : (edit : Edit) → IsMarked 3 edit → IsOther edit
  three_other edit = other_mark 3 edit (λ e. omega (arith, e)) (λ e. omega (arith, e))

  not_kept : (b : Bool) → not b ≡ true → b ≡ false
  not_kept true e = sym e
  not_kept false e = refl

  cleared_so : (edit : Edit) → Contains (clear_edits are.kept g) edit → IsGone edit ⊎ IsOther edit
  cleared_so edit h = elim (Contains-append_cases flags_go runs_go edit h) [
    | inl first ↦ inr (elim (Contains-append_cases (map unflag (finite.entries g.flags)) (map uncreate (finite.entries g.created)) edit first) [
      | inl flag ↦ other_mark 7 edit (λ e. omega (arith, e)) (λ e. omega (arith, e)) (all_marked 7 unflag (finite.entries g.flags) (λ x. refl) edit flag)
      | inr mark ↦ other_mark 6 edit (λ e. omega (arith, e)) (λ e. omega (arith, e)) (all_marked 6 uncreate (finite.entries g.created) (λ x. refl) edit mark)
    ])
    | inr run ↦ (let found = mapped unrun (filter (λ (one : ℕ × RunRecord). not (are.kept one.0)) (finite.entries g.runs)) edit run in
        let there = filter_in (λ (one : ℕ × RunRecord). not (are.kept one.0)) (finite.entries g.runs) found.0 found.1 in
        inl (found.0, not_kept (are.kept found.0.0) there.1, found.2))
  ]

  unread_marked : (dirs : List Names) (edit : Edit) → Contains (filter_map (unread g) dirs) edit → IsMarked 2 edit
  unread_marked [] edit h = absurd (none_in edit h)
  unread_marked (dir ∷ dirs) edit h = by (finite.get g.readings dir) (unread_marked dirs edit) h
    where
      by : (found : Option Reading) → (Contains (filter_map (unread g) dirs) edit → IsMarked 2 edit) → Contains (cons_option (option_map (λ (reading : Reading). Remove (records.Reading dir reading)) found) (filter_map (unread g) dirs)) edit → IsMarked 2 edit
      by None next h = next h
      by (Some reading) next h = elim (front_or_behind (Remove (records.Reading dir reading)) edit (filter_map (unread g) dirs) h) [
        | inl same ↦ subst (IsMarked 2) same refl
        | inr later ↦ next later
      ]

  less_marked : (count n : ℕ) (some : List Rule) (edit : Edit) → Contains (less_edits count n some) edit → IsMarked 3 edit
  less_marked count n [] edit h = absurd (none_in edit h)
  less_marked count n (rule ∷ some) edit h = elim (Contains-append_cases (less_edits count (suc n) some) (cond (goes count n) (rule_less n ∷ []) []) edit h) [
    | inl later ↦ less_marked count (suc n) some edit later
    | inr here ↦ by (goes count n) here
  ]
    where
      by : (b : Bool) → Contains (cond b (rule_less n ∷ []) []) edit → IsMarked 3 edit
      by true h = elim (front_or_behind (rule_less n) edit [] h) [
        | inl same ↦ subst (IsMarked 3) same refl
        | inr later ↦ absurd (none_in edit later)
      ]
      by false h = absurd (none_in edit h)

  more_marked : (before some : List Rule) (edit : Edit) → Contains (more_edits before some) edit → IsMarked 3 edit
  more_marked before [] edit h = absurd (none_in edit h)
  more_marked before (rule ∷ some) edit h = elim (front_or_behind (rule_more (length before) (place_behind before rule) rule) edit (more_edits (before ++ rule ∷ []) some) h) [
    | inl same ↦ subst (IsMarked 3) same refl
    | inr later ↦ more_marked (before ++ rule ∷ []) some edit later
  ]

  before_so : (edit : Edit) → Contains before_puts edit → IsGone edit ⊎ IsOther edit
  before_so edit h =
      let clear = clear_edits are.kept g in
      let read_so_far = reading_edits g fresh gone in
      let less = less_edits (length rules) 0 g.rules in
      elim (Contains-append_cases (clear ++ read_so_far ++ less) (more_edits [] rules) edit h) [
        | inr more ↦ inr (three_other edit (more_marked [] rules edit more))
        | inl first ↦ elim (Contains-append_cases (clear ++ read_so_far) less edit first) [
          | inr one ↦ inr (three_other edit (less_marked (length rules) 0 g.rules edit one))
          | inl second ↦ elim (Contains-append_cases clear read_so_far edit second) [
            | inl third ↦ cleared_so edit third
            | inr read_edit ↦ inr (two_other edit (elim (Contains-append_cases (filter_map (unread g) gone) (map read_so fresh) edit read_edit) [
              | inl one ↦ unread_marked gone edit one
              | inr one ↦ all_marked 2 read_so fresh (λ x. refl) edit one
            ]))
          ]
        ]
      ]

  module _ (entries : Standing) (up : IsAscending entries) (is : IsGraphOf entries g) (spelled : AllByRecursion HasSpelling short) where
    puts_spelled : AllByRecursion HasSpelling (before_puts ++ new_runs ++ new_owned)
    puts_spelled = front (before_puts ++ new_runs ++ new_owned) (flag_edits are.flags) spelled

    first_spelled : AllByRecursion HasSpelling (before_puts ++ new_runs)
    first_spelled = front (before_puts ++ new_runs) new_owned puts_spelled

    run_spelled : (run : ℕ × RunRecord) → Contains are.runs run → HasSpelling (run_so run)
    run_spelled run h = elim (are.run_news_are.rest run.0 run.1 h) [
      | inl new ↦ member_spelled run_so are.run_news run (rest before_puts new_runs first_spelled) new
      | inr stands ↦ (run_stands entries g up is run.0 run.1 stands).0
    ]

    own_spelled : (one : Names × Owned) → Contains (finite.entries are.owned) one → HasSpelling (own_so one)
    own_spelled one h = elim (are.owned_news_are.rest one.0 one.1 h) [
      | inl new ↦ member_spelled own_so are.owned_news one (rest (before_puts ++ new_runs) new_owned puts_spelled) new
      | inr stands ↦ (owner_stands entries g up is one.0 one.1 stands).0
    ]

    fewer_spelled : AllByRecursion HasSpelling fewer
    fewer_spelled =
        joined HasSpelling (before_puts ++ all_runs ++ all_owned) (flag_edits are.flags)
        (joined HasSpelling (before_puts ++ all_runs) all_owned (joined HasSpelling before_puts all_runs (front before_puts new_runs first_spelled) (each_spelled run_so are.runs run_spelled)) (each_spelled own_so (finite.entries are.owned) own_spelled))
        (rest (before_puts ++ new_runs ++ new_owned) (flag_edits are.flags) spelled)

    news_within : (edit : Edit) → Contains (new_runs ++ new_owned) edit → Contains (all_runs ++ all_owned) edit
    news_within edit h = elim (Contains-append_cases new_runs new_owned edit h) [
      | inl run ↦ (let x = mapped run_so are.run_news edit run in
          subst (Contains (all_runs ++ all_owned)) x.2 (Contains-append_left all_runs all_owned (run_so x.0) (in_mapped run_so are.runs x.0 (are.run_news_are.within x.0.0 x.0.1 x.1))))
      | inr own ↦ (let x = mapped own_so are.owned_news edit own in
          subst (Contains (all_runs ++ all_owned)) x.2 (Contains-append_right all_runs all_owned (own_so x.0) (in_mapped own_so (finite.entries are.owned) x.0 (are.owned_news_are.within x.0.0 x.0.1 x.1))))
    ]

    abbrev Stays : Edit → Type 0
    Stays edit = changes_it entries (change_of edit) ≡ false

    puts_rest : (edit : Edit) → Contains (all_runs ++ all_owned) edit → Contains (new_runs ++ new_owned) edit ⊎ Stays edit
    puts_rest edit h = elim (Contains-append_cases all_runs all_owned edit h) [
      | inl run ↦ (let x = mapped run_so are.runs edit run in elim (are.run_news_are.rest x.0.0 x.0.1 x.1) [
        | inl new ↦ inl (subst (Contains (new_runs ++ new_owned)) x.2 (Contains-append_left new_runs new_owned (run_so x.0) (in_mapped run_so are.run_news x.0 new)))
        | inr stands ↦ inr (subst Stays x.2 (changes_nothing entries (records.Run x.0.0 x.0.1) (run_stands entries g up is x.0.0 x.0.1 stands)))
      ])
      | inr own ↦ (let x = mapped own_so (finite.entries are.owned) edit own in elim (are.owned_news_are.rest x.0.0 x.0.1 x.1) [
        | inl new ↦ inl (subst (Contains (new_runs ++ new_owned)) x.2 (Contains-append_right new_runs new_owned (own_so x.0) (in_mapped own_so are.owned_news x.0 new)))
        | inr stands ↦ inr (subst Stays x.2 (changes_nothing entries (records.Owned x.0.0 x.0.1.maker x.0.1.state) (owner_stands entries g up is x.0.0 x.0.1 stands)))
      ])
    ]

    -- one key, one change
    abbrev SameKey : Edit → Edit → Type 0
    SameKey edit other = key_of (change_of edit) ≡ key_of (change_of other)

    two_runs : (x y : ℕ × RunRecord) → Contains are.runs x → Contains are.runs y → SameKey (run_so x) (run_so y) → change_of (run_so x) ≡ change_of (run_so y)
    two_runs x y here there same =
        let number : x.0 ≡ y.0 = one_number 4 x.0 y.0 (run_spelled x here).0 (run_spelled y there).0 same in
        let record_is : x.1 ≡ y.1 =
        one_run g fresh gone rules edits are y.0 x.1 y.1 (subst (λ (n : ℕ). IsRunNow g rules n x.1) number ((are.runs_are x.0 x.1).0 here)) ((are.runs_are y.0 y.1).0 there) in
        (λ i. change_of (run_so (number i, record_is i)))

    two_owned : (x y : Names × Owned) → Contains (finite.entries are.owned) x → Contains (finite.entries are.owned) y → SameKey (own_so x) (own_so y) → change_of (own_so x) ≡ change_of (own_so y)
    two_owned x y here there same =
        let path_is : x.0 ≡ y.0 = one_path 5 x.0 y.0 (own_spelled x here).0 (own_spelled y there).0 same in
        let one : x.1 ≡ y.1 = same_Some x.1 y.1 (sym (found_entry are.owned x.0 x.1 here) ∙ ap (finite.get are.owned) path_is ∙ found_entry are.owned y.0 y.1 there) in
        (λ i. change_of (own_so (path_is i, one i)))

    apart_kinds : (x : ℕ × RunRecord) (y : Names × Owned) → SameKey (run_so x) (own_so y) → ⊥
    apart_kinds x y same = let wrong : 4 ≡ 5 = one_mark (records.Run x.0 x.1) (records.Owned y.0 y.1.maker y.1.state) same in omega (arith, wrong)

    one_change : (edit other : Edit) → Contains (all_runs ++ all_owned) edit → Contains (all_runs ++ all_owned) other → SameKey edit other → change_of edit ≡ change_of other
    one_change edit other h k same = elim (Contains-append_cases all_runs all_owned edit h) [
      | inl run ↦ (let x = mapped run_so are.runs edit run in elim (Contains-append_cases all_runs all_owned other k) [
        | inl run_too ↦ (let y = mapped run_so are.runs other run_too in sym (ap change_of x.2) ∙ two_runs x.0 y.0 x.1 y.1 (keys x.2 y.2) ∙ ap change_of y.2)
        | inr own_too ↦ (let y = mapped own_so (finite.entries are.owned) other own_too in absurd (apart_kinds x.0 y.0 (keys x.2 y.2)))
      ])
      | inr own ↦ (let x = mapped own_so (finite.entries are.owned) edit own in elim (Contains-append_cases all_runs all_owned other k) [
        | inl run_too ↦ (let y = mapped run_so are.runs other run_too in absurd (apart_kinds y.0 x.0 (sym (keys x.2 y.2))))
        | inr own_too ↦ (let y = mapped own_so (finite.entries are.owned) other own_too in sym (ap change_of x.2) ∙ two_owned x.0 y.0 x.1 y.1 (keys x.2 y.2) ∙ ap change_of y.2)
      ])
    ]
      where
        keys : {a b : Edit} → a ≡ edit → b ≡ other → SameKey a b
        keys {a} {b} first second = ap (λ (e : Edit). key_of (change_of e)) first ∙ same ∙ sym (ap (λ (e : Edit). key_of (change_of e)) second)

    -- nothing before the puts has a key of one of them
    marks_of : (edit other : Edit) → SameKey edit other → mark_of (record_of edit) ≡ mark_of (record_of other)
    marks_of edit other same = one_mark (record_of edit) (record_of other) (sym (record_key edit) ∙ same ∙ record_key other)

    apart_before : (edit other : Edit) → Contains (all_runs ++ all_owned) edit → Contains before_puts other → SameKey other edit → ⊥
    apart_before edit other h k same = by (before_so other k) (Contains-append_cases all_runs all_owned edit h)
      where
        by : IsGone other ⊎ IsOther other → Contains all_runs edit ⊎ Contains all_owned edit → ⊥
        by (inr apart) (inl run) = let x = mapped run_so are.runs edit run in apart.0 (marks_of other edit same ∙ sym (ap (λ (e : Edit). mark_of (record_of e)) x.2))
        by (inr apart) (inr own) = let x = mapped own_so (finite.entries are.owned) edit own in apart.1 (marks_of other edit same ∙ sym (ap (λ (e : Edit). mark_of (record_of e)) x.2))
        by (inl gone_one) (inr own) =
            let x = mapped own_so (finite.entries are.owned) edit own in
            let wrong : 4 ≡ 5 = ap (λ (e : Edit). mark_of (record_of e)) gone_one.2 ∙ marks_of other edit same ∙ sym (ap (λ (e : Edit). mark_of (record_of e)) x.2) in omega (arith, wrong)
        by (inl gone_one) (inl run) =
            let x = mapped run_so are.runs edit run in
            let fits_gone : HasSpelling other = member_spelled (λ (e : Edit). e) before_puts other (as_they_are before_puts (front before_puts new_runs first_spelled)) k in
            let number : gone_one.0.0 ≡ x.0.0 =
            one_number 4 gone_one.0.0 x.0.0 (subst HasSpelling (sym gone_one.2) fits_gone).0 (run_spelled x.0 x.1).0
            (ap (λ (e : Edit). key_of (change_of e)) gone_one.2 ∙ same ∙ sym (ap (λ (e : Edit). key_of (change_of e)) x.2)) in
            let kept_so = (are.kept_are x.0.0).1 (x.0.1, (are.runs_are x.0.0 x.0.1).0 x.1) in
            true≢false (sym kept_so ∙ ap are.kept (sym number) ∙ gone_one.1)

    -- what is needed is the same
    needed_so : filter (changes_it entries) (finite.values (last_changes (map change_of whole))) ≡ filter (changes_it entries) (finite.values (last_changes (map change_of edits)))
    needed_so =
        ap (λ (last : Last). filter (changes_it entries) (finite.values last)) (last_as whole ∙ same_last ∙ ap (after finite.empty) (puts_line all_runs all_owned))
        ∙ needed_same (changes_it entries) before_puts (all_runs ++ all_owned) (new_runs ++ new_owned) (flag_edits are.flags) news_within puts_rest one_change apart_before
        ∙ ap (λ (last : Last). filter (changes_it entries) (finite.values last)) (ap (after finite.empty) (sym (puts_line new_runs new_owned)) ∙ sym (last_as short) ∙ ap (λ (l : List Edit). last_changes (map change_of l)) (sym are.all))

  pub swap_read : (entries : Standing) (origin : ℕ) → IsAscending entries → IsGraphOf entries g → AreByFolder rules → All HasSpelling edits → IsGraphOf (once_made origin entries edits) (edited_by g edits)
  swap_read entries origin up is ordered spelled =
      let level = level_of entries g is in
      let short_spelled = recursion_from_All HasSpelling short (subst (All HasSpelling) are.all spelled) in
      let all = all_spelled (fewer_spelled entries up is short_spelled) in
      subst (λ (changes : List Change). IsGraphOf (committed origin entries changes) (edited_by g edits)) (needed_so entries up is short_spelled)
      (subst (IsGraphOf (once_made origin entries whole)) (whole_leaves level)
      (needed_read entries (map change_of whole) origin (edited_by g whole) up (turns_read origin whole entries g up is (all_taken level ordered all))))
