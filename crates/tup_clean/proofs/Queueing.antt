-- How a queue of rules goes on: it is filled, the first ready rule is taken, and the readers of a Good one are released.
use Rattle.std.proofs.Common.{◌≡◌, ℕ, zero, suc, ◌+◌, ◌-◌, ◌<◌, ◌≤◌, ◌==◌, nat_lt, Bool, true, false, ◌&&◌, ◌||◌, cond, if◌then◌else◌, List, [], ◌∷◌, ◌++◌, length, take, get_or, Option, None, Some, refl, sym, ap, ◌∙◌, subst, inl, inr, ◌⊎◌, arith}
use Rattle.std.proofs.lemmas.Bool.{cases_eq, eq-eqb, ne_eqb, le-ltb, lt-ltb, and_from, and_left, or_right, false≢true}
use Rattle.std.proofs.lemmas.Option.{same_Some, none-some, slice_get_within, slice_get_past, get_or_from_slice_get}
use Rattle.std.specs.List.{slice_get, slice_set}
use Rattle.std.specs.BTreeMap.{is_at}
use Rattle.std.specs.BTreeSet.{BTreeSet, contains}
use Rattle.std.specs.Ordering.{nat_cmp}
use Rattle.tup_rule.specs.declared.rule.Rule.{Rule}
use Rattle.tup_clean.specs.declared.queue.Queue.{Queue}
use Rattle.tup_rule.specs.Makers.{MakerMap, HasMakers, producers, producers_in}
use Rattle.tup_clean.specs.Queue.{count_of, waits_for, waits_for_none, IsQueue, is_ready, AreWaiting, CanRelease, IsReleased, IsFilled, AreBelow, IsNoted}
use Rattle.tup_rule.proofs.Making.{producers_in-is}
use Rattle.tup_clean.proofs.Making.{producers-below}
use Rattle.tup_clean.proofs.Places.{set_here, set_apart}
use Rattle.tup_clean.proofs.Counting.{at_number, one_if-same, one_if-other, count_of-push, count_of-take, count_of-take-le, waits_for-none, waits_for-good, waits_for-count}

-- ---- lists

or_none : (b : Bool) → (b || false) ≡ b
or_none true = refl
or_none false = refl

and_none : (b : Bool) → (b && false) ≡ false
and_none true = refl
and_none false = refl

some_or_none : {A : Type 0} (o : Option A) → ((x : A) × (o ≡ Some x)) ⊎ (o ≡ None)
some_or_none (Some x) = inl (x, refl)
some_or_none None = inr refl

none_at : (waits : List ℕ) (at n : ℕ) → slice_get waits at ≡ Some n → waits_for_none waits at ≡ (n == 0)
none_at waits at n here = rw (here, waits_for_none) refl

none_past : (waits : List ℕ) (at : ℕ) → slice_get waits at ≡ None → waits_for_none waits at ≡ false
none_past waits at past = rw (past, waits_for_none) refl

-- ---- release

-- the next reader waits for some
pub record IsStill (waits : List ℕ) (r : ℕ) : Type 0 where
  pub within : r < length waits
  pub there : slice_get waits r ≡ Some (get_or waits r 0)
  pub some : 1 ≤ get_or waits r 0

module _ (list old : List ℕ) (was : BTreeSet ℕ) (waiting : AreWaiting list old) (i : ℕ) (less : i < length list) where
  one_more : count_of (get_or list i 0) (take (i + 1) list) ≡ count_of (get_or list i 0) (take i list) + 1
  one_more = count_of-take (get_or list i 0) list i (get_or list i 0) less refl ∙ ap (λ one. count_of (get_or list i 0) (take i list) + one) (one_if-same (get_or list i 0) (get_or list i 0) refl)

  same_more : (at : ℕ) → (at ≡ get_or list i 0 → ⊥) → count_of at (take (i + 1) list) ≡ count_of at (take i list)
  same_more at apart = count_of-take at list i (get_or list i 0) less refl ∙ ap (λ one. count_of at (take i list) + one) (one_if-other (get_or list i 0) at (λ e. apart (sym e))) ∙ plain (count_of at (take i list))
    where
      plain : (n : ℕ) → n + 0 ≡ n
      plain n = omega arith

  pub still : (waits : List ℕ) (ready : BTreeSet ℕ) → IsReleased (take i list) old waits was ready → IsStill waits (get_or list i 0)
  still waits ready released =
      let whole = count_of-take-le (get_or list i 0) list (i + 1) in
      let first = waiting (get_or list i 0) (omega (arith, one_more, whole)) in
      let there = released.waits (get_or list i 0) first.0 first.1 in
      let is : get_or waits (get_or list i 0) 0 ≡ first.0 - count_of (get_or list i 0) (take i list) = get_or_from_slice_get waits (get_or list i 0) _ 0 there in
      record {
        within = slice_get_within waits (get_or list i 0) _ there;
        there = there ∙ ap Some (sym is);
        some = omega (arith, one_more, whole, first.2, is);
      }

  module _ (waits next : List ℕ) (ready : BTreeSet ℕ) (released : IsReleased (take i list) old waits was ready) (written : next ≡ slice_set waits (get_or list i 0) (get_or waits (get_or list i 0) 0 - 1)) where
    now_here : slice_get next (get_or list i 0) ≡ Some (get_or waits (get_or list i 0) 0 - 1)
    now_here = rw written (set_here waits (get_or list i 0) (get_or waits (get_or list i 0) 0 - 1) (still waits ready released).within)

    now_apart : (at : ℕ) → (at ≡ get_or list i 0 → ⊥) → slice_get next at ≡ slice_get waits at
    now_apart at apart = rw written (set_apart waits (get_or list i 0) at (get_or waits (get_or list i 0) 0 - 1) apart)

    step_waits : (at n : ℕ) → slice_get old at ≡ Some n → slice_get next at ≡ Some (n - count_of at (take (i + 1) list))
    step_waits at n stood =
        elim (cases_eq at (get_or list i 0)) [
          | inl same ↦
              let was_there : slice_get waits (get_or list i 0) ≡ Some (n - count_of (get_or list i 0) (take i list)) = rw (← same) (released.waits at n stood) in
              let w_is : get_or waits (get_or list i 0) 0 ≡ n - count_of (get_or list i 0) (take i list) = same_Some _ _ (sym (still waits ready released).there ∙ was_there) in
              let less_one : get_or waits (get_or list i 0) 0 - 1 ≡ n - count_of (get_or list i 0) (take (i + 1) list) = omega (arith, one_more, w_is) in
              rw same (now_here ∙ ap Some less_one)
          | inr apart ↦ now_apart at apart ∙ released.waits at n stood ∙ ap (λ k. Some (n - k)) (sym (same_more at apart))
        ]

    step_beyond : (at : ℕ) → slice_get old at ≡ None → slice_get next at ≡ None
    step_beyond at past =
        elim (cases_eq at (get_or list i 0)) [
          | inl same ↦ absurd (none-some _ (sym (released.beyond at past) ∙ ap (slice_get waits) same ∙ (still waits ready released).there))
          | inr apart ↦ now_apart at apart ∙ released.beyond at past
        ]

    -- what a test of the next reader says, and of any other number
    test_elsewhere : (at : ℕ) → (at ≡ get_or list i 0 → ⊥) →
        (nat_lt 0 (count_of at (take (i + 1) list)) && waits_for_none next at) ≡ (nat_lt 0 (count_of at (take i list)) && waits_for_none waits at)
    test_elsewhere at apart =
        let same : waits_for_none next at ≡ waits_for_none waits at = ap (λ (o : Option ℕ). elim o as (λ _. Bool) [ Some n ↦ n == 0 | None ↦ false ]) (now_apart at apart) in
        λ k. nat_lt 0 (same_more at apart k) && same k

    test_here : (nat_lt 0 (count_of (get_or list i 0) (take (i + 1) list)) && waits_for_none next (get_or list i 0)) ≡ (get_or waits (get_or list i 0) 0 - 1 == 0)
    test_here =
        let some : nat_lt 0 (count_of (get_or list i 0) (take (i + 1) list)) ≡ true = lt-ltb 0 _ (omega (arith, one_more)) in
        rw some (none_at next (get_or list i 0) _ now_here)

    -- it waits for none now
    pub released_ready : (after : BTreeSet ℕ) → get_or waits (get_or list i 0) 0 - 1 ≡ 0 →
        ((at : ℕ) → contains nat_cmp after at ≡ cond (is_at (nat_cmp (get_or list i 0)) at) true (contains nat_cmp ready at)) → IsReleased (take (i + 1) list) old next was after
    released_ready after none inserted = record {
      waits = step_waits;
      beyond = step_beyond;
      ready = λ at. elim (at_number (get_or list i 0) at) [
        | inl same ↦
            let here : contains nat_cmp after at ≡ true = inserted at ∙ ap (λ b. cond b true (contains nat_cmp ready at)) same.1 in
            let tested : (nat_lt 0 (count_of at (take (i + 1) list)) && waits_for_none next at) ≡ true = rw (← same.0) (test_here ∙ eq-eqb _ 0 none) in
            here ∙ sym (or_right (contains nat_cmp was at) _ tested)
        | inr apart ↦
            let kept : contains nat_cmp after at ≡ contains nat_cmp ready at = inserted at ∙ ap (λ b. cond b true (contains nat_cmp ready at)) apart.1 in
            kept ∙ released.ready at ∙ ap (λ b. contains nat_cmp was at || b) (sym (test_elsewhere at (λ e. apart.0 (sym e))))
      ];
    }

    -- or for some
    pub released_waiting : (get_or waits (get_or list i 0) 0 - 1 ≡ 0 → ⊥) → IsReleased (take (i + 1) list) old next was ready
    released_waiting some = record {
      waits = step_waits;
      beyond = step_beyond;
      ready = λ at. elim (cases_eq at (get_or list i 0)) [
        | inl same ↦
            let there : slice_get waits at ≡ Some (get_or waits (get_or list i 0) 0) = ap (slice_get waits) same ∙ (still waits ready released).there in
            let before : (nat_lt 0 (count_of at (take i list)) && waits_for_none waits at) ≡ false =
            ap (λ b. nat_lt 0 (count_of at (take i list)) && b) (none_at waits at _ there ∙ ne_eqb _ 0 (λ none. some (omega (arith, none)))) ∙ and_none _ in
            let now : (nat_lt 0 (count_of at (take (i + 1) list)) && waits_for_none next at) ≡ false = rw same (test_here ∙ ne_eqb _ 0 some) in
            released.ready at ∙ ap (λ b. contains nat_cmp was at || b) (before ∙ sym now)
        | inr apart ↦ released.ready at ∙ ap (λ b. contains nat_cmp was at || b) (sym (test_elsewhere at apart))
      ];
    }

-- a Good rule's readers can be released
pub can_release : (rules : List Rule) (left good : ℕ → Bool) (queue : Queue) (at : ℕ) (rule : Rule) → IsQueue rules left good queue → slice_get rules at ≡ Some rule → good at ≡ false → CanRelease at queue
can_release rules left good queue at rule is here bad = record {
  here = let within = slice_get_within rules at rule here in omega (arith, within, is.many);
  enough = λ list there other some.
      elim (some_or_none (slice_get rules other)) [
        | inl reader ↦
            let count = is.readers other at reader.0 list reader.1 there in
            let most = waits_for-count good at (producers rules reader.0) bad in
            (waits_for good (producers rules reader.0), is.waits other reader.0 reader.1, omega (arith, count, most))
        | inr past ↦ let none = is.within other at list past there in absurd (omega (arith, none, some))
      ];
}

-- and then it counts as Good
pub release_more : (rules : List Rule) (left good : ℕ → Bool) (queue after : Queue) (at : ℕ) (list : List ℕ) → IsQueue rules left good queue → good at ≡ false → slice_get queue.readers.items at ≡ Some list →
    after.readers ≡ queue.readers → IsReleased list queue.waits.items after.waits.items queue.ready after.ready → IsQueue rules left (λ k. good k || k == at) after
release_more rules left good queue after at list is bad there kept released = record {
  many = ap (λ readers. length readers.items) kept ∙ is.many;
  waits = λ place rule here. released.waits place _ (is.waits place rule here) ∙ ap Some (less place rule here);
  beyond = λ place past. released.beyond place (is.beyond place past);
  readers = λ place other rule found here lists. is.readers place other rule found here (sym (ap (λ readers. slice_get readers.items other) kept) ∙ lists);
  within = λ place other found past lists. is.within place other found past (sym (ap (λ readers. slice_get readers.items other) kept) ∙ lists);
  ready = λ place. released.ready place ∙ elim (some_or_none (slice_get rules place)) [
    | inl reader ↦ at_rule place reader.0 reader.1
    | inr past ↦
        let before : waits_for_none queue.waits.items place ≡ false = none_past queue.waits.items place (is.beyond place past) in
        let now : waits_for_none after.waits.items place ≡ false = none_past after.waits.items place (released.beyond place (is.beyond place past)) in
        rw (is.ready place, before, now, and_none (left place), and_none (nat_lt 0 (count_of place list))) refl
  ];
  taken = λ place rule here gone. let was = is.taken place rule here gone in let now = less place rule here in omega (arith, was, now);
}
  where
    less : (place : ℕ) (rule : Rule) → slice_get rules place ≡ Some rule → waits_for good (producers rules rule) - count_of place list ≡ waits_for (λ k. good k || k == at) (producers rules rule)
    less place rule here =
        let count = is.readers place at rule list here there in
        let fewer = waits_for-good good at (producers rules rule) bad in
        omega (arith, count, fewer)

    by_count : (left_ : Bool) (c w : ℕ) → c ≤ w → (left_ ≡ false → w ≡ 0) → ((left_ && w == 0) || nat_lt 0 c && w - c == 0) ≡ (left_ && w - c == 0)
    by_count left_ zero w most gone = or_none (left_ && w == 0) ∙ ap (λ n. left_ && n == 0) (same w)
      where
        same : (n : ℕ) → n ≡ n - 0
        same n = omega arith
    by_count true (suc c) w most gone = rw (ne_eqb w 0 (λ none. absurd (omega arith)), lt-ltb 0 (suc c) (omega arith)) refl
    by_count false (suc c) w most gone = absurd (let none = gone refl in omega arith)

    at_rule : (place : ℕ) (rule : Rule) → slice_get rules place ≡ Some rule →
        (contains nat_cmp queue.ready place || nat_lt 0 (count_of place list) && waits_for_none after.waits.items place) ≡ (left place && waits_for_none after.waits.items place)
    at_rule place rule here =
        let w = waits_for good (producers rules rule) in
        let c = count_of place list in
        let count = is.readers place at rule list here there in
        let most = waits_for-count good at (producers rules rule) bad in
        let old = none_at queue.waits.items place w (is.waits place rule here) in
        let new = none_at after.waits.items place (w - c) (released.waits place w (is.waits place rule here)) in
        (λ k. (is.ready place ∙ ap (λ b. left place && b) old) k || nat_lt 0 c && new k)
        ∙ by_count (left place) c w (omega (arith, count, most)) (is.taken place rule here)
        ∙ ap (λ b. left place && b) (sym new)

-- where a rule isn't Good, nothing changes
pub note_bad : (rules : List Rule) (left good : ℕ → Bool) (queue : Queue) (at : ℕ) (turns : Bool) → turns ≡ false → IsQueue rules left good queue → IsQueue rules left (λ k. good k || turns && k == at) queue
note_bad rules left good queue at turns stays is = subst (λ (b : Bool). IsQueue rules left (λ k. good k || b && k == at) queue) (sym stays) (subst (λ (g : ℕ → Bool). IsQueue rules left g queue) (λ i k. sym (or_none (good k)) i) is)

-- and where it is, its readers were released
pub note_good : (rules : List Rule) (left good : ℕ → Bool) (queue after : Queue) (at : ℕ) (turns : Bool) (list counts : List ℕ) → turns ≡ true → IsQueue rules left good queue → good at ≡ false → slice_get queue.readers.items at ≡ Some list →
    after.readers ≡ queue.readers → after.waits.items ≡ counts → IsReleased list queue.waits.items counts queue.ready after.ready → IsQueue rules left (λ k. good k || turns && k == at) after
note_good rules left good queue after at turns list counts turned is bad there kept written released =
    subst (λ (b : Bool). IsQueue rules left (λ k. good k || b && k == at) after) (sym turned)
    (release_more rules left good queue after at list is bad there kept (subst (λ (l : List ℕ). IsReleased list queue.waits.items l queue.ready after.ready) (sym written) released))

-- ---- the first that is ready

ready_is : (rules : List Rule) (left good : ℕ → Bool) (queue : Queue) → IsQueue rules left good queue → (at : ℕ) → contains nat_cmp queue.ready at ≡ is_ready rules left good at
ready_is rules left good queue is at =
    elim (some_or_none (slice_get rules at)) [
      | inl found ↦ is.ready at ∙ ap (λ b. left at && b) (none_at queue.waits.items at _ (is.waits at found.0 found.1)) ∙ sym (rw (found.1, is_ready) refl)
      | inr past ↦ is.ready at ∙ ap (λ b. left at && b) (none_past queue.waits.items at (is.beyond at past)) ∙ and_none (left at) ∙ sym (rw (past, is_ready) refl)
    ]

-- ---- filling

pub noted_more : (reader : ℕ) (list : List ℕ) (old lists next : List (List ℕ)) (i producer : ℕ) (before : List ℕ) → IsNoted reader (take i list) old lists → i < length list → producer ≡ get_or list i 0 →
    slice_get lists producer ≡ Some before → next ≡ slice_set lists producer (before ++ reader ∷ []) → length next ≡ length lists → IsNoted reader (take (i + 1) list) old next
noted_more reader list old lists next i producer before noted less here there written long = record {
  many = long ∙ noted.many;
  each = λ other after found. elim (cases_eq other producer) [
    | inl same ↦
        let is : after ≡ before ++ reader ∷ [] = same_Some _ _ (sym found ∙ rw (written, same) (set_here lists producer (before ++ reader ∷ []) (slice_get_within lists producer before there))) in
        let was = noted.each other before (ap (slice_get lists) same ∙ there) in (
          was.0,
          was.1,
          λ at.
              let grown = ap (count_of at) is ∙ count_of-push at before reader in
              let more = count_of-take other list i producer less here ∙ ap (λ one. count_of other (take i list) + one) (one_if-same producer other (sym same)) in
              let stood = was.2 at in
              by (reader == at) _ _ _ _ _ grown stood more,
        )
    | inr apart ↦
        let was = noted.each other after (sym (rw written (set_apart lists producer other (before ++ reader ∷ []) apart)) ∙ found) in
        let more = count_of-take other list i producer less here ∙ ap (λ one. count_of other (take i list) + one) (one_if-other producer other (λ e. apart (sym e))) in
        (was.0, was.1, λ at. was.2 at ∙ by_same (reader == at) _ _ _ more)
  ];
}
  where
    by : (b : Bool) (after before first some more : ℕ) → after ≡ before + (if b then 1 else 0) → before ≡ first + (if b then some else 0) → more ≡ some + 1 → after ≡ first + (if b then more else 0)
    by true after before first some more grown stood is = omega arith
    by false after before first some more grown stood is = omega arith

    by_same : (b : Bool) (first some more : ℕ) → more ≡ some + 0 → first + (if b then some else 0) ≡ first + (if b then more else 0)
    by_same true first some more is = omega arith
    by_same false first some more is = refl

-- the next rule, with the makers of what it declares
pub filled_more : (rules : List Rule) (count : ℕ) (queue after : Queue) (rule : Rule) → IsFilled rules count queue → slice_get rules count ≡ Some rule → IsNoted count (producers rules rule) queue.readers.items after.readers.items →
    after.waits.items ≡ queue.waits.items ++ length (producers rules rule) ∷ [] → ((at : ℕ) → contains nat_cmp after.ready at ≡ (contains nat_cmp queue.ready at || count == at && length (producers rules rule) == 0)) →
    IsFilled rules (count + 1) after
filled_more rules count queue after rule filled here noted grown ready = record {
  long = ap length grown ∙ longer queue.waits.items ∙ ap (λ n. n + 1) filled.long;
  many = noted.many ∙ filled.many;
  waits = λ at other below there. elim (cases_eq at count) [
    | inl same ↦
        let is : other ≡ rule = same_Some _ _ (sym there ∙ ap (slice_get rules) same ∙ here) in
        ap (λ counts. slice_get counts at) grown ∙ rw (same, is) last
    | inr apart ↦ ap (λ counts. slice_get counts at) grown ∙ front queue.waits.items at (omega (arith, filled.long, below, apart)) ∙ filled.waits at other (omega (arith, below, apart)) there
  ];
  readers = λ at other reader list below there found.
      let was = noted.each other list found in
      elim (cases_eq at count) [
        | inl same ↦
            let is : reader ≡ rule = same_Some _ _ (sym there ∙ ap (slice_get rules) same ∙ here) in
            let none = filled.later at other was.0 (omega (arith, same)) was.1 in
            was.2 at ∙ rw (none, eq-eqb count at (sym same), is) (plain (count_of other (producers rules rule)))
        | inr apart ↦ was.2 at ∙ rw (ne_eqb count at (λ e. apart (sym e))) (none_more (count_of at was.0)) ∙ filled.readers at other reader was.0 (omega (arith, below, apart)) there was.1
      ];
  later = λ at other list above found.
      let was = noted.each other list found in
      was.2 at ∙ rw (filled.later at other was.0 (omega (arith, above)) was.1, ne_eqb count at (λ e. absurd (omega (arith, above, e)))) refl;
  ready = λ at. ready at ∙ elim (cases_eq at count) [
    | inl same ↦
        let now : waits_for_none after.waits.items at ≡ (length (producers rules rule) == 0) = none_at after.waits.items at _ (ap (λ counts. slice_get counts at) grown ∙ rw same last) in
        let before : contains nat_cmp queue.ready at ≡ false = filled.ready at ∙ none_past queue.waits.items at (slice_get_past queue.waits.items at (omega (arith, filled.long, same))) in
        rw (before, eq-eqb count at (sym same), now) refl
    | inr apart ↦
        rw (ne_eqb count at (λ e. apart (sym e))) (or_none (contains nat_cmp queue.ready at)) ∙ filled.ready at ∙ elim (some_or_none (slice_get queue.waits.items at)) [
          | inl found ↦
              let within = slice_get_within queue.waits.items at found.0 found.1 in
              none_at queue.waits.items at found.0 found.1 ∙ sym (none_at after.waits.items at found.0 (ap (λ counts. slice_get counts at) grown ∙ front queue.waits.items at within ∙ found.1))
          | inr past ↦ none_past queue.waits.items at past ∙ sym (none_past after.waits.items at (ap (λ counts. slice_get counts at) grown ∙ past_all queue.waits.items at past (λ e. apart (e ∙ filled.long))))
        ]
  ];
}
  where
    longer : (xs : List ℕ) → length (xs ++ length (producers rules rule) ∷ []) ≡ length xs + 1
    longer [] = refl
    longer (x ∷ xs) = let rest = longer xs in omega (arith, rest)

    plain : (n : ℕ) → 0 + n ≡ n
    plain n = omega arith

    none_more : (n : ℕ) → n + 0 ≡ n
    none_more n = omega arith

    front : (xs : List ℕ) (at : ℕ) → at < length xs → slice_get (xs ++ length (producers rules rule) ∷ []) at ≡ slice_get xs at
    front [] at below = absurd (omega arith)
    front (x ∷ xs) zero below = refl
    front (x ∷ xs) (suc at) below = front xs at (omega arith)

    behind : (xs : List ℕ) → slice_get (xs ++ length (producers rules rule) ∷ []) (length xs) ≡ Some (length (producers rules rule))
    behind [] = refl
    behind (x ∷ xs) = behind xs

    last : slice_get (queue.waits.items ++ length (producers rules rule) ∷ []) count ≡ Some (length (producers rules rule))
    last = rw (← filled.long) (behind queue.waits.items)

    past_all : (xs : List ℕ) (at : ℕ) → slice_get xs at ≡ None → (at ≡ length xs → ⊥) → slice_get (xs ++ length (producers rules rule) ∷ []) at ≡ None
    past_all [] zero past apart = absurd (apart refl)
    past_all [] (suc at) past apart = refl
    past_all (x ∷ xs) zero past apart = absurd (none-some x (sym past))
    past_all (x ∷ xs) (suc at) past apart = past_all xs at past (λ e. apart (ap suc e))

-- once all are filled in, none of them Good, it is a queue
pub filled_all : (rules : List Rule) (queue : Queue) → IsFilled rules (length rules) queue → IsQueue rules (λ at. nat_lt at (length rules)) (λ at. false) queue
filled_all rules queue filled = record {
  many = filled.many;
  waits = λ at rule here. filled.waits at rule (slice_get_within rules at rule here) here ∙ ap Some (sym (waits_for-none (producers rules rule)));
  beyond = λ at past. slice_get_past queue.waits.items at (let all = past_length rules at past in omega (arith, filled.long, all));
  readers = λ at other rule list here there. filled.readers at other rule list (slice_get_within rules at rule here) here there;
  within = λ at other list past there. filled.later at other list (past_length rules at past) there;
  ready = λ at. filled.ready at ∙ elim (some_or_none (slice_get rules at)) [
    | inl found ↦ rw (lt-ltb at (length rules) (slice_get_within rules at found.0 found.1)) refl
    | inr past ↦
        let all = past_length rules at past in
        rw (le-ltb at (length rules) all) (none_past queue.waits.items at (slice_get_past queue.waits.items at (omega (arith, filled.long, all))))
  ];
  taken = λ at rule here gone. absurd (false≢true (sym gone ∙ lt-ltb at (length rules) (slice_get_within rules at rule here)));
}
  where
    past_length : {A : Type 0} (xs : List A) (at : ℕ) → slice_get xs at ≡ None → length xs ≤ at
    past_length [] at past = omega arith
    past_length (x ∷ xs) zero past = absurd (none-some x (sym past))
    past_length (x ∷ xs) (suc at) past = let rest = past_length xs at past in omega (arith, rest)

-- the ready rules, once one that waits for none was put in
pub ready_in : (at : ℕ) (found : List ℕ) (old new : BTreeSet ℕ) → length found ≡ 0 → ((k : ℕ) → contains nat_cmp new k ≡ cond (is_at (nat_cmp at) k) true (contains nat_cmp old k)) →
    (k : ℕ) → contains nat_cmp new k ≡ (contains nat_cmp old k || at == k && length found == 0)
ready_in at found old new none inserted k =
    let tested : (length found == 0) ≡ true = eq-eqb (length found) 0 none in
    elim (at_number at k) [
      | inl same ↦
          let here : contains nat_cmp new k ≡ true = inserted k ∙ ap (λ b. cond b true (contains nat_cmp old k)) same.1 in
          let there : (at == k && length found == 0) ≡ true = and_from _ _ (eq-eqb at k same.0) tested in
          here ∙ sym (or_right (contains nat_cmp old k) _ there)
      | inr apart ↦
          let here : contains nat_cmp new k ≡ contains nat_cmp old k = inserted k ∙ ap (λ b. cond b true (contains nat_cmp old k)) apart.1 in
          let there : (at == k && length found == 0) ≡ false = and_left _ _ (ne_eqb at k apart.0) in
          here ∙ sym (ap (λ b. contains nat_cmp old k || b) there ∙ or_none (contains nat_cmp old k))
    ]

-- and where one that waits was not
pub ready_out : (at : ℕ) (found : List ℕ) (old : BTreeSet ℕ) → (length found ≡ 0 → ⊥) → (k : ℕ) → contains nat_cmp old k ≡ (contains nat_cmp old k || at == k && length found == 0)
ready_out at found old some k =
    let none : (at == k && length found == 0) ≡ false = ap (λ b. at == k && b) (ne_eqb (length found) 0 some) ∙ and_none (at == k) in
    sym (ap (λ b. contains nat_cmp old k || b) none ∙ or_none (contains nat_cmp old k))

-- one more rule, as the code adds it
pub filled_add : (rules : List Rule) (count : ℕ) (queue after : Queue) (rule : Rule) (makers : MakerMap) (found : List ℕ) (at : ℕ) → HasMakers rules makers → slice_get rules count ≡ Some rule → IsFilled rules count queue →
    found ≡ producers_in makers rule → at ≡ length queue.waits.items → IsNoted at found queue.readers.items after.readers.items →
    after.waits.items ≡ queue.waits.items ++ length found ∷ [] → ((k : ℕ) → contains nat_cmp after.ready k ≡ (contains nat_cmp queue.ready k || at == k && length found == 0)) → IsFilled rules (count + 1) after
filled_add rules count queue after rule makers found at has here filled is place noted grown ready =
    let same : found ≡ producers rules rule = is ∙ producers_in-is rules makers rule has in
    let there : at ≡ count = place ∙ filled.long in
    filled_more rules count queue after rule filled here
    (subst (λ n. IsNoted n (producers rules rule) queue.readers.items after.readers.items) there (subst (λ (l : List ℕ). IsNoted at l queue.readers.items after.readers.items) same noted))
    (grown ∙ ap (λ (l : List ℕ). queue.waits.items ++ length l ∷ []) same)
    (λ k. ready k ∙ λ i. contains nat_cmp queue.ready k || there i == k && length (same i) == 0)

-- the same, with the queue between its two last writes
pub filled_step : (rules : List Rule) (count : ℕ) (queue middle after : Queue) (rule : Rule) (makers : MakerMap) (found : List ℕ) (lists : List (List ℕ)) (at size : ℕ) → HasMakers rules makers → slice_get rules count ≡ Some rule → IsFilled rules count queue →
    found ≡ producers_in makers rule → at ≡ length queue.waits.items → IsNoted at found queue.readers.items lists → middle.waits ≡ queue.waits → middle.readers.items ≡ lists →
    ((k : ℕ) → contains nat_cmp middle.ready k ≡ (contains nat_cmp queue.ready k || at == k && length found == 0)) →
    after.waits.items ≡ middle.waits.items ++ size ∷ [] → size ≡ length found → after.readers ≡ middle.readers → after.ready ≡ middle.ready → IsFilled rules (count + 1) after
filled_step rules count queue middle after rule makers found lists at size has here filled is place noted waits readers ready grown long same_readers same_ready =
    filled_add rules count queue after rule makers found at has here filled is place
    (subst (IsNoted at found queue.readers.items) (sym (ap (λ all. all.items) same_readers ∙ readers)) noted)
    (grown ∙ (λ i. (waits i).items ++ long i ∷ []))
    (λ k. ap (λ (set : BTreeSet ℕ). contains nat_cmp set k) same_ready ∙ ready k)

-- all producers stand among the rules
pub takes : (rules : List Rule) (count : ℕ) (queue : Queue) (rule : Rule) (makers : MakerMap) → HasMakers rules makers → IsFilled rules count queue → AreBelow (producers_in makers rule) (length queue.readers.items)
takes rules count queue rule makers has filled at some =
    let below = producers-below rules rule at (rw (← (producers_in-is rules makers rule has)) some) in
    omega (arith, below, filled.many)
