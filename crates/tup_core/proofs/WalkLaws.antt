-- A walk from reader to reader: what is noted, and what was found at its end.
use Rattle.std.proofs.Common.{◌≡◌, ℕ, zero, suc, ◌+◌, ◌<◌, ◌≤◌, Bool, true, false, ◌⊎◌, List, [], ◌∷◌, ◌++◌, length, get_or, take, refl, sym, ap, ◌∙◌, subst, inl, inr, arith}
use Rattle.std.specs.Prelude.{if◌then◌else◌, slice_get, slice_set, unwrap_or}
use Rattle.std.proofs.lemmas.Bool.{true≢false, cases_Bool, cases_eq, cases_lt, true_from_ne_false}
use Rattle.std.proofs.lemmas.Option.{unwrap_or-slice_get}
use Rattle.std.proofs.lemmas.List.{length-set, length_push, take_more, get_or_read}
use Rattle.std.proofs.lemmas.List.Sums.{sum_by-set}
use Rattle.tup_clean.specs.Queue.{count_of}
use Rattle.tup_clean.proofs.Counting.{one_if-same, one_if-other, count_of-push, count_of-here}
use Rattle.tup_core.specs.Waiting.{flag, number, times, AreDown, AreWithin, AreOnce, AreBehind, AreEntries, AreWaiters, LeadsOver}
use Rattle.tup_core.specs.Walk.{AreFlagged, Notes, Raises, follows, readers_if, IsWalked}
use Rattle.tup_core.proofs.ItemLaws.{set_same, set_other, flag_within, number_front}

-- ---- counts

count_one : (place at : ℕ) → place ≡ at → 0 < count_of at (place ∷ [])
count_one place at same = let one = one_if-same place at same in omega (arith, one)

counted_one : (place at : ℕ) → 0 < count_of at (place ∷ []) → place ≡ at
counted_one place at some = elim (cases_eq place at) [
  | inl same ↦ same
  | inr apart ↦ absurd (let none = one_if-other place at apart in omega (arith, none, some))
]

in_push : (places : List ℕ) (place at : ℕ) → 0 < count_of at (places ++ place ∷ []) → (0 < count_of at places) ⊎ (0 < count_of at (place ∷ []))
in_push places place at some = elim (cases_lt 0 (count_of at places)) [
  | inl front ↦ inl front
  | inr none ↦ inr (let sum = count_of-push at places place in omega (arith, sum, none, some))
]

push_front : (places : List ℕ) (place at : ℕ) → 0 < count_of at places → 0 < count_of at (places ++ place ∷ [])
push_front places place at some = let sum = count_of-push at places place in omega (arith, sum, some)

push_last : (places : List ℕ) (place at : ℕ) → 0 < count_of at (place ∷ []) → 0 < count_of at (places ++ place ∷ [])
push_last places place at some = let sum = count_of-push at places place in omega (arith, sum, some)

-- what is counted stands somewhere
pub found_at : (list : List ℕ) (at : ℕ) → 0 < count_of at list → (i : ℕ) × (i < length list) × (number list i ≡ at)
found_at [] at some = absurd (omega arith)
found_at (first ∷ list) at some = elim (cases_eq first at) [
  | inl same ↦ (zero, omega arith, same)
  | inr apart ↦
      let rest = found_at list at (let none = one_if-other first at apart in omega (arith, none, some)) in
      (suc rest.0, (let below = rest.1 in omega (arith, below)), rest.2)
]

-- ---- notes

pub notes_none : (seen : List Bool) (found : List ℕ) → Notes [] seen found seen found
notes_none seen found = record {
  many = refl;
  flagged = λ all. all;
  kept = λ at up. up;
  noted = λ at some. absurd (omega arith);
  others = λ at up. inl up;
  longer = omega arith;
  front = λ i below. refl;
  measure = refl;
}

notes_more : (places : List ℕ) (place : ℕ) (seen : List Bool) (found : List ℕ) (middle : List Bool) (between : List ℕ) (new : List Bool) (now : List ℕ) →
    Notes places seen found middle between → Notes (place ∷ []) middle between new now → Notes (places ++ place ∷ []) seen found new now
notes_more places place seen found middle between new now done next = record {
  many = next.many ∙ done.many;
  flagged = λ all. next.flagged (done.flagged all);
  kept = λ at up. next.kept at (done.kept at up);
  noted = λ at some. elim (in_push places place at some) [
    | inl front ↦ next.kept at (done.noted at front)
    | inr last ↦ next.noted at last
  ];
  others = λ at up. elim (next.others at up) [
    | inr last ↦ inr (push_last places place at last)
    | inl before ↦ elim (done.others at before) [
      | inl first ↦ inl first
      | inr front ↦ inr (push_front places place at front)
    ]
  ];
  longer = omega (arith, done.longer, next.longer);
  front = λ i below. next.front i (omega (arith, done.longer, below)) ∙ done.front i below;
  measure = next.measure ∙ done.measure;
}

-- one place more
pub notes_step : (places : List ℕ) (i place : ℕ) (seen : List Bool) (found : List ℕ) (middle : List Bool) (between : List ℕ) (new : List Bool) (now : List ℕ) → i < length places → place ≡ get_or places i 0 →
    Notes (take i places) seen found middle between → Notes (place ∷ []) middle between new now → Notes (take (i + 1) places) seen found new now
notes_step places i place seen found middle between new now less here done next =
    subst (λ (l : List ℕ). Notes l seen found new now) (sym (take_more places i 0 less ∙ ap (λ (p : ℕ). take i places ++ p ∷ []) (sym here)))
    (notes_more (take i places) place seen found middle between new now done next)

-- and one that wasn't
pub notes_new : (place : ℕ) (seen : List Bool) (found : List ℕ) → place < length seen → flag seen place ≡ false → Notes (place ∷ []) seen found (slice_set seen place true) (found ++ place ∷ [])
notes_new place seen found within down = record {
  many = length-set seen place true;
  flagged = λ all at. elim (cases_eq at place) [
    | inl same ↦
        let was : count_of at found ≡ 0 = all at ∙ ap (λ (b : Bool). if b then 1 else 0) (ap (flag seen) same ∙ down) in
        let one = one_if-same place at (sym same) in
        let sum = count_of-push at found place in
        let now : count_of at (found ++ place ∷ []) ≡ 1 = omega (arith, was, one, sum) in
        now ∙ sym (ap (λ (b : Bool). if b then 1 else 0) (flag_here at same))
    | inr apart ↦
        let none = one_if-other place at (λ same. apart (sym same)) in
        let sum = count_of-push at found place in
        let now : count_of at (found ++ place ∷ []) ≡ count_of at found = omega (arith, none, sum) in
        now ∙ all at ∙ sym (ap (λ (b : Bool). if b then 1 else 0) (set_other seen place at true false apart))
  ];
  kept = λ at up. elim (cases_eq at place) [
    | inl same ↦ flag_here at same
    | inr apart ↦ set_other seen place at true false apart ∙ up
  ];
  noted = λ at some. flag_here at (sym (counted_one place at some));
  others = λ at up. elim (cases_eq at place) [
    | inl same ↦ inr (count_one place at (sym same))
    | inr apart ↦ inl (sym (set_other seen place at true false apart) ∙ up)
  ];
  longer = let long = length_push found place in omega (arith, long);
  front = λ i below. number_front found place i below;
  measure =
      let sums = sum_by-set (λ (up : Bool). if up then 0 else 1) seen place true false within in
      let was : ◌≡◌ {A = ℕ} (if get_or seen place false then 0 else 1) 1 = ap (λ (up : Bool). if up then 0 else 1) (sym (unwrap_or-slice_get seen place false) ∙ down) in
      let long = length_push found place in
      omega (arith, sums, was, long);
}
  where
    flag_here : (at : ℕ) → at ≡ place → flag (slice_set seen place true) at ≡ true
    flag_here at same = ap (flag (slice_set seen place true)) same ∙ set_same seen place true false within

-- ---- the walk

pub walked_start : (readers : List (List ℕ)) (pending : List Bool) (from : ℕ) (list : List ℕ) (seen new : List Bool) (found : List ℕ) → length seen ≡ length readers → AreDown seen →
    list ≡ unwrap_or (slice_get readers from) [] → Notes list seen [] new found → IsWalked readers pending from found 0 new
walked_start readers pending from list seen new found long down is notes = record {
  many = notes.many ∙ long;
  flagged = notes.flagged (λ at. sym (ap (λ (b : Bool). if b then 1 else 0) (down at)));
  first = λ at some. notes.noted at (subst (λ (l : List ℕ). 0 < count_of at l) (sym is) some);
  onward = λ i below. absurd (none i below);
  led = λ at up. elim (notes.others at up) [
    | inl was ↦ absurd (true≢false (sym was ∙ down at))
    | inr listed ↦ (zero, subst (λ (l : List ℕ). 0 < count_of at l) is listed)
  ];
  behind = omega arith;
}
  where
    none : (i : ℕ) → i < 0 → ⊥
    none i below = omega arith

-- what was read of lists at a place
pub list_at : (lists : List (List ℕ)) (at : ℕ) (item list : List ℕ) → at < length lists → list ≡ item → item ≡ get_or lists at item → list ≡ unwrap_or (slice_get lists at) []
list_at lists at item list within same is = same ∙ get_or_read lists at item within is [] ∙ sym (unwrap_or-slice_get lists at [])

-- readers stand among the rules
pub reads_within : (readers : List (List ℕ)) (at : ℕ) (seen : List Bool) (list : List ℕ) → AreWithin readers → length seen ≡ length readers → list ≡ unwrap_or (slice_get readers at) [] → (k : ℕ) → 0 < count_of k list → k < length seen
reads_within readers at seen list within long is = λ k some. subst (λ (n : ℕ). k < n) (sym long) (within at k (subst (λ (l : List ℕ). 0 < count_of k l) is some))

pub follows_down : (readers : List (List ℕ)) (pending : List Bool) (at : ℕ) → flag pending at ≡ false → follows readers pending at ≡ unwrap_or (slice_get readers at) []
follows_down readers pending at down = ap (λ (b : Bool). if b then [] else unwrap_or (slice_get readers at) []) down

-- what is followed of a rule is read by it
follows_reads : (readers : List (List ℕ)) (pending : List Bool) (at k : ℕ) → 0 < count_of k (follows readers pending at) → 0 < times readers at k
follows_reads readers pending at k some = by (flag pending at) some
  where
    by : (b : Bool) → 0 < count_of k (if b then [] else unwrap_or (slice_get readers at) []) → 0 < times readers at k
    by true some = absurd (omega arith)
    by false some = some

pub reads_follows : (readers : List (List ℕ)) (pending : List Bool) (at k : ℕ) → flag pending at ≡ false → 0 < times readers at k → 0 < count_of k (follows readers pending at)
reads_follows readers pending at k down some = by (flag pending at) down
  where
    by : (b : Bool) → b ≡ false → 0 < count_of k (if b then [] else unwrap_or (slice_get readers at) [])
    by true up = absurd (true≢false up)
    by false still = some

-- what was found is flagged
pub flag_of : (seen : List Bool) (found : List ℕ) (at : ℕ) → AreFlagged seen found → 0 < count_of at found → flag seen at ≡ true
flag_of seen found at all some = true_from_ne_false (flag seen at) (λ down. let none : count_of at found ≡ 0 = all at ∙ ap (λ (b : Bool). if b then 1 else 0) down in omega (arith, none, some))

count_from : (seen : List Bool) (found : List ℕ) (at : ℕ) → AreFlagged seen found → flag seen at ≡ true → 0 < count_of at found
count_from seen found at all up = let one : count_of at found ≡ 1 = all at ∙ ap (λ (b : Bool). if b then 1 else 0) up in omega (arith, one)

-- what was found next is flagged, and stands among the rules
pub next_flagged : (readers : List (List ℕ)) (pending : List Bool) (from : ℕ) (found : List ℕ) (next : ℕ) (seen : List Bool) → IsWalked readers pending from found next seen → next < length found → flag seen (number found next) ≡ true
next_flagged readers pending from found next seen walked less =
    flag_of seen found (number found next) walked.flagged (subst (λ (n : ℕ). 0 < count_of n found) (sym (unwrap_or-slice_get found next 0)) (count_of-here found next less))

pub walked_more : (readers : List (List ℕ)) (pending : List Bool) (from : ℕ) (found : List ℕ) (next : ℕ) (seen : List Bool) (at : ℕ) (new : List Bool) (now : List ℕ) → IsWalked readers pending from found next seen → next < length found →
    at ≡ number found next → Notes (follows readers pending at) seen found new now → IsWalked readers pending from now (next + 1) new
walked_more readers pending from found next seen at new now walked less is notes = record {
  many = notes.many ∙ walked.many;
  flagged = notes.flagged walked.flagged;
  first = λ k some. notes.kept k (walked.first k some);
  onward = λ i below k some. elim (cases_eq i next) [
    | inl same ↦
        let place : number now i ≡ at = notes.front i (omega (arith, same, less)) ∙ ap (number found) same ∙ sym is in
        notes.noted k (subst (λ (n : ℕ). 0 < count_of k (follows readers pending n)) place some)
    | inr apart ↦
        let before : i < next = nearer i next apart below in
        let place : number now i ≡ number found i = notes.front i (omega (arith, before, less)) in
        notes.kept k (walked.onward i before k (subst (λ (n : ℕ). 0 < count_of k (follows readers pending n)) place some))
  ];
  led = λ k up. elim (notes.others k up) [
    | inl was ↦ walked.led k was
    | inr followed ↦
        let leads = walked.led at (subst (λ (n : ℕ). flag seen n ≡ true) (sym is) (next_flagged readers pending from found next seen walked less)) in
        (suc leads.0, (at, leads.1, follows_reads readers pending at k followed))
  ];
  behind = omega (arith, less, notes.longer);
}
  where
    nearer : (n m : ℕ) → (n ≡ m → ⊥) → n < m + 1 → n < m
    nearer n m apart below = omega arith

-- no place stands twice among those that were found
found_once : (seen : List Bool) (found : List ℕ) (at : ℕ) → AreFlagged seen found → count_of at found ≤ 1
found_once seen found at all = subst (λ (n : ℕ). n ≤ 1) (sym (all at)) (small (flag seen at))
  where
    small : (b : Bool) → (if b then 1 else 0) ≤ 1
    small true = omega arith
    small false = omega arith

none_flagged : (seen : List Bool) → AreDown seen → AreFlagged seen []
none_flagged seen down = λ at. sym (ap (λ (b : Bool). if b then 1 else 0) (down at))

-- what is noted of the readers of a rule are these
pub noted_once : (readers : List (List ℕ)) (from : ℕ) (list : List ℕ) (seen new : List Bool) (found : List ℕ) → AreDown seen → list ≡ unwrap_or (slice_get readers from) [] → Notes list seen [] new found → AreOnce readers from found
noted_once readers from list seen new found down is notes = record {
  all = λ at some. count_from new found at flagged (notes.noted at (subst (λ (l : List ℕ). 0 < count_of at l) (sym is) some));
  only = λ at some. elim (notes.others at (flag_of new found at flagged some)) [
    | inl was ↦ absurd (true≢false (sym was ∙ down at))
    | inr listed ↦ subst (λ (l : List ℕ). 0 < count_of at l) is listed
  ];
  once = λ at. found_once new found at flagged;
}
  where
    flagged : AreFlagged new found
    flagged = notes.flagged (none_flagged seen down)

pub noted_flagged : (list : List ℕ) (seen new : List Bool) (found : List ℕ) → AreDown seen → Notes list seen [] new found → AreFlagged new found
noted_flagged list seen new found down notes = notes.flagged (none_flagged seen down)

-- at the end all was found to which the rule leads over others that weren't reached
walked_over : (readers : List (List ℕ)) (reached : List Bool) (from : ℕ) (found : List ℕ) (seen : List Bool) → IsWalked readers reached from found (length found) seen → (between at : ℕ) → LeadsOver between readers reached from at → flag seen at ≡ true
walked_over readers reached from found seen walked zero at some = walked.first at some
walked_over readers reached from found seen walked (suc between) at (next, leads, outside, some) =
    let place = found_at found next (count_from seen found next walked.flagged (walked_over readers reached from found seen walked between next leads)) in
    walked.onward place.0 place.1 at (subst (λ (n : ℕ). 0 < count_of at (follows readers reached n)) (sym place.2) (reads_follows readers reached next at outside some))

-- and the reached ones of these are behind it
pub walked_behind : (readers : List (List ℕ)) (reached : List Bool) (from : ℕ) (found list : List ℕ) (seen : List Bool) → IsWalked readers reached from found (length found) seen →
    ((at : ℕ) → count_of at list ≡ (if flag reached at then count_of at found else 0)) → AreBehind readers reached from list
walked_behind readers reached from found list seen walked kept = record {
  all = λ between at leads inside.
      let some = count_from seen found at walked.flagged (walked_over readers reached from found seen walked between at leads) in
      subst (λ (n : ℕ). 0 < n) (sym (of_reached at inside)) some;
  inner = inner;
  led = λ at some. walked.led at (flag_of seen found at walked.flagged (subst (λ (n : ℕ). 0 < n) (of_reached at (inner at some)) some));
  once = λ at. elim (cases_Bool (flag reached at)) [
    | inl up ↦ subst (λ (n : ℕ). n ≤ 1) (sym (of_reached at up)) (found_once seen found at walked.flagged)
    | inr down ↦ let none = of_others at down in omega (arith, none)
  ];
}
  where
    of_reached : (at : ℕ) → flag reached at ≡ true → count_of at list ≡ count_of at found
    of_reached at up = kept at ∙ ap (λ (b : Bool). if b then count_of at found else 0) up

    of_others : (at : ℕ) → flag reached at ≡ false → count_of at list ≡ 0
    of_others at down = kept at ∙ ap (λ (b : Bool). if b then count_of at found else 0) down

    inner : (at : ℕ) → 0 < count_of at list → flag reached at ≡ true
    inner at some = true_from_ne_false (flag reached at) (λ down. let none = of_others at down in omega (arith, none, some))

-- ---- what waits for a rule, in each case

pub once_waiters : (readers : List (List ℕ)) (reached entries : List Bool) (from : ℕ) → flag reached from ≡ true → (list : List ℕ) → AreOnce readers from list → AreWaiters readers reached entries from list
once_waiters readers reached entries from up list once = record {
  listed = λ _. once;
  behind = λ down _. absurd (true≢false (sym up ∙ down));
  others = λ down _. absurd (true≢false (sym up ∙ down));
}

pub behind_waiters : (readers : List (List ℕ)) (reached entries : List Bool) (from : ℕ) → flag reached from ≡ false → flag entries from ≡ true → (list : List ℕ) → AreBehind readers reached from list → AreWaiters readers reached entries from list
behind_waiters readers reached entries from down entry list behind = record {
  listed = λ up. absurd (true≢false (sym up ∙ down));
  behind = λ _ _. behind;
  others = λ _ none. absurd (true≢false (sym entry ∙ none));
}

pub no_waiters : (readers : List (List ℕ)) (reached entries : List Bool) (from : ℕ) → flag reached from ≡ false → flag entries from ≡ false → (list : List ℕ) → list ≡ [] → AreWaiters readers reached entries from list
no_waiters readers reached entries from down none list is = record {
  listed = λ up. absurd (true≢false (sym up ∙ down));
  behind = λ _ entry. absurd (true≢false (sym entry ∙ none));
  others = λ _ _. is;
}

-- ---- places whose flags are up

-- one of them more, or one that isn't
pub flagged_more : (places : List ℕ) (i place : ℕ) (flags : List Bool) (old new : List ℕ) → i < length places → place ≡ get_or places i 0 → ((at : ℕ) → count_of at old ≡ (if flag flags at then count_of at (take i places) else 0)) →
    ((at : ℕ) → count_of at new ≡ count_of at old + (if flag flags at then count_of at (place ∷ []) else 0)) → (at : ℕ) → count_of at new ≡ (if flag flags at then count_of at (take (i + 1) places) else 0)
flagged_more places i place flags old new less here before one at =
    now at ∙ by (flag flags at)
  where
    now : (k : ℕ) → count_of k new ≡ (if flag flags k then count_of k (take i places) else 0) + (if flag flags k then count_of k (place ∷ []) else 0)
    now k = one k ∙ ap (λ (n : ℕ). n + (if flag flags k then count_of k (place ∷ []) else 0)) (before k)

    by : (b : Bool) → ◌≡◌ {A = ℕ} ((if b then count_of at (take i places) else 0) + (if b then count_of at (place ∷ []) else 0)) (if b then count_of at (take (i + 1) places) else 0)
    by false = refl
    by true =
        let grown : take (i + 1) places ≡ take i places ++ place ∷ [] = take_more places i 0 less ∙ ap (λ (p : ℕ). take i places ++ p ∷ []) (sym here) in
        let sum = count_of-push at (take i places) place in
        let same : count_of at (take (i + 1) places) ≡ count_of at (take i places ++ place ∷ []) = ap (count_of at) grown in
        omega (arith, sum, same)

-- a place whose flag isn't up, and one whose flag is
if_place : (flags : List Bool) (place at : ℕ) (b : Bool) → flag flags place ≡ b → ◌≡◌ {A = ℕ} (if flag flags at then count_of at (place ∷ []) else 0) (if b then count_of at (place ∷ []) else 0)
if_place flags place at b is = elim (cases_eq at place) [
  | inl same ↦ ap (λ (x : Bool). if x then count_of at (place ∷ []) else 0) (ap (flag flags) same ∙ is)
  | inr apart ↦
      let none : count_of at (place ∷ []) ≡ 0 = (let one = one_if-other place at (λ same. apart (sym same)) in omega (arith, one)) in
      ap (λ (n : ℕ). if flag flags at then n else 0) none ∙ both (flag flags at) b ∙ ap (λ (n : ℕ). if b then n else 0) (sym none)
]
  where
    nothing_of : (b : Bool) → ◌≡◌ {A = ℕ} (if b then 0 else 0) 0
    nothing_of true = refl
    nothing_of false = refl

    both : (a b : Bool) → ◌≡◌ {A = ℕ} (if a then 0 else 0) (if b then 0 else 0)
    both a b = nothing_of a ∙ sym (nothing_of b)

pub kept_none : (flags : List Bool) (place : ℕ) (list : List ℕ) → flag flags place ≡ false → (at : ℕ) → count_of at list ≡ count_of at list + (if flag flags at then count_of at (place ∷ []) else 0)
kept_none flags place list down at = let none = if_place flags place at false down in omega (arith, none)

pub kept_one : (flags : List Bool) (place : ℕ) (list new : List ℕ) → flag flags place ≡ true → new ≡ list ++ place ∷ [] → (at : ℕ) → count_of at new ≡ count_of at list + (if flag flags at then count_of at (place ∷ []) else 0)
kept_one flags place list new up is at =
    let one = if_place flags place at true up in
    let sum = count_of-push at list place in
    let same : count_of at new ≡ count_of at (list ++ place ∷ []) = ap (count_of at) is in
    omega (arith, one, sum, same)

-- ---- flags that are put up

pub raised_none : (flags : List Bool) → Raises [] flags flags
raised_none flags = record { many = refl; up = λ at some. absurd (omega arith); kept = λ at up. up; others = λ at up. inl up }

pub raised_more : (places : List ℕ) (i place : ℕ) (old flags : List Bool) → i < length places → place ≡ get_or places i 0 → place < length flags → Raises (take i places) old flags → Raises (take (i + 1) places) old (slice_set flags place true)
raised_more places i place old flags less here within done = record {
  many = length-set flags place true ∙ done.many;
  up = λ at some. elim (cases_eq at place) [
    | inl same ↦ raised at same
    | inr apart ↦ set_other flags place at true false apart ∙ elim (in_push (take i places) place at (subst (λ (l : List ℕ). 0 < count_of at l) grown some)) [
      | inl front ↦ done.up at front
      | inr last ↦ absurd (apart (sym (counted_one place at last)))
    ]
  ];
  kept = λ at up. elim (cases_eq at place) [
    | inl same ↦ raised at same
    | inr apart ↦ set_other flags place at true false apart ∙ done.kept at up
  ];
  others = λ at up. elim (cases_eq at place) [
    | inl same ↦ inr (subst (λ (l : List ℕ). 0 < count_of at l) (sym grown) (push_last (take i places) place at (count_one place at (sym same))))
    | inr apart ↦ elim (done.others at (sym (set_other flags place at true false apart) ∙ up)) [
      | inl was ↦ inl was
      | inr front ↦ inr (subst (λ (l : List ℕ). 0 < count_of at l) (sym grown) (push_front (take i places) place at front))
    ]
  ];
}
  where
    grown : take (i + 1) places ≡ take i places ++ place ∷ []
    grown = take_more places i 0 less ∙ ap (λ (p : ℕ). take i places ++ p ∷ []) (sym here)

    raised : (at : ℕ) → at ≡ place → flag (slice_set flags place true) at ≡ true
    raised at same = ap (flag (slice_set flags place true)) same ∙ set_same flags place true false within

-- the flags of the readers of the first rules, if they were reached
pub record AreRaised (readers : List (List ℕ)) (reached : List Bool) (count : ℕ) (entries : List Bool) : Type 0 where
  pub many : length entries ≡ length readers
  pub up : (from at : ℕ) → from < count → flag reached from ≡ true → 0 < times readers from at → flag entries at ≡ true
  pub only : (at : ℕ) → flag entries at ≡ true → (from : ℕ) × (flag reached from ≡ true) × (0 < times readers from at)

pub raised_start : (readers : List (List ℕ)) (reached entries : List Bool) → length entries ≡ length readers → AreDown entries → AreRaised readers reached 0 entries
raised_start readers reached entries long down = record {
  many = long;
  up = λ from at below. absurd (none from below);
  only = λ at up. absurd (true≢false (sym up ∙ down at));
}
  where
    none : (n : ℕ) → n < 0 → ⊥
    none n below = omega arith

pub raised_next : (readers : List (List ℕ)) (reached : List Bool) (count : ℕ) (entries new : List Bool) → AreRaised readers reached count entries → Raises (readers_if readers reached count) entries new → AreRaised readers reached (count + 1) new
raised_next readers reached count entries new are done = record {
  many = done.many ∙ are.many;
  up = λ from at below inside some. elim (cases_eq from count) [
    | inl same ↦ done.up at (raises_some count at (ap (flag reached) (sym same) ∙ inside) (subst (λ (n : ℕ). 0 < times readers n at) same some))
    | inr apart ↦ done.kept at (are.up from at (nearer from apart below) inside some)
  ];
  only = λ at up. elim (done.others at up) [
    | inl was ↦ are.only at was
    | inr some ↦ let both = some_raises at (flag reached count) refl some in (count, both.0, both.1)
  ];
}
  where
    nearer : (n : ℕ) → (n ≡ count → ⊥) → n < count + 1 → n < count
    nearer n apart below = omega arith

    raises_some : (n at : ℕ) → flag reached n ≡ true → 0 < times readers n at → 0 < count_of at (readers_if readers reached n)
    raises_some n at up some = subst (λ (l : List ℕ). 0 < count_of at l) (sym (ap (λ (b : Bool). if b then unwrap_or (slice_get readers n) [] else []) up)) some

    some_raises : (at : ℕ) (b : Bool) → flag reached count ≡ b → 0 < count_of at (if b then unwrap_or (slice_get readers count) [] else []) → (flag reached count ≡ true) × (0 < times readers count at)
    some_raises at true up some = (up, some)
    some_raises at false down some = absurd (omega arith)

pub raised_all : (readers : List (List ℕ)) (reached entries : List Bool) (count : ℕ) → AreWithin readers → length reached ≡ length readers → AreRaised readers reached count entries → length readers ≤ count → AreEntries readers reached entries
raised_all readers reached entries count within long are all = record {
  many = are.many;
  up = λ from at inside some. are.up from at (let below = flag_within reached from inside in omega (arith, below, long, all)) inside some;
  only = are.only;
}

-- ---- flags that are taken down

-- some flags were taken down, and no others put up
pub record IsLowered (places : List ℕ) (old new : List Bool) : Type 0 where
  pub down : (at : ℕ) → 0 < count_of at places → flag new at ≡ false
  pub rest : (at : ℕ) → flag new at ≡ true → flag old at ≡ true

pub lowered_none : (flags : List Bool) → IsLowered [] flags flags
lowered_none flags = record { down = λ at some. absurd (omega arith); rest = λ at up. up }

pub lowered_more : (places : List ℕ) (i place : ℕ) (old flags : List Bool) → i < length places → place ≡ get_or places i 0 → place < length flags → IsLowered (take i places) old flags → IsLowered (take (i + 1) places) old (slice_set flags place false)
lowered_more places i place old flags less here within done = record {
  down = λ at some. elim (cases_eq at place) [
    | inl same ↦ ap (flag (slice_set flags place false)) same ∙ set_same flags place false false within
    | inr apart ↦ set_other flags place at false false apart ∙ elim (in_push (take i places) place at (subst (λ (l : List ℕ). 0 < count_of at l) grown some)) [
      | inl front ↦ done.down at front
      | inr last ↦ absurd (apart (sym (counted_one place at last)))
    ]
  ];
  rest = λ at up. elim (cases_eq at place) [
    | inl same ↦ absurd (true≢false (sym up ∙ ap (flag (slice_set flags place false)) same ∙ set_same flags place false false within))
    | inr apart ↦ done.rest at (sym (set_other flags place at false false apart) ∙ up)
  ];
}
  where
    grown : take (i + 1) places ≡ take i places ++ place ∷ []
    grown = take_more places i 0 less ∙ ap (λ (p : ℕ). take i places ++ p ∷ []) (sym here)

-- once all that was found is taken down, nothing is up
pub all_down : (seen new : List Bool) (found : List ℕ) → AreFlagged seen found → ((at : ℕ) → 0 < count_of at found → flag new at ≡ false) → ((at : ℕ) → flag new at ≡ true → flag seen at ≡ true) → AreDown new
all_down seen new found all down rest = λ at. elim (cases_Bool (flag new at)) [
  | inr is_down ↦ is_down
  | inl up ↦ absurd (true≢false (sym up ∙ down at (count_from seen found at all (rest at up))))
]

-- what is followed next is a rule
pub next_within : (readers : List (List ℕ)) (pending : List Bool) (from : ℕ) (found : List ℕ) (next : ℕ) (seen : List Bool) (list : List ℕ) → IsWalked readers pending from found next seen → next < length found → list ≡ found → get_or list next 0 < length readers
next_within readers pending from found next seen list walked less same =
    let within = flag_within seen (number found next) (next_flagged readers pending from found next seen walked less) in
    let here : get_or list next 0 ≡ number found next = ap (λ (l : List ℕ). get_or l next 0) same ∙ sym (unwrap_or-slice_get found next 0) in
    omega (arith, within, here, walked.many)
