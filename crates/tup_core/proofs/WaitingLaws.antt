-- Lists of waiting rules and the rules that they are made of: who waits by the ones waits by the others.
use Rattle.std.proofs.Common.{◌≡◌, ℕ, zero, suc, ◌+◌, ◌<◌, ◌≤◌, ◌^◌, ◌==◌, nat_lt, Bool, true, false, not, ◌&&◌, ◌⊎◌, List, [], ◌∷◌, ◌++◌, length, get_or, take, drop, Option, None, Some, refl, sym, ap, ◌∙◌, subst, inl, inr, arith}
use Rattle.std.specs.Prelude.{if◌then◌else◌, slice_get, slice_set, unwrap_or}
use Rattle.std.specs.List.{filter_map, cons_option}
use Rattle.std.proofs.lemmas.Bool.{true≢false, cases_Bool, cases_eq, cases_lt, or_cases, or_left, or_right, and_parts, not-true, eqb-true, eqb-false, lt-ltb, ltb-true, le-ltb}
use Rattle.std.proofs.lemmas.Option.{same_Some, none-some, slice_get_within, unwrap_or-slice_get}
use Rattle.std.proofs.lemmas.List.{length_push, get_or_push, get_or_append_left, take_more, at_drop_more, at_drop_all}
use Rattle.std.proofs.lemmas.List.Folds.{list_any-append}
use Rattle.tup_path.specs.Name.{Names}
use Rattle.tup_path.specs.Order.{same_path}
use Rattle.tup_path.proofs.Same.{same_path-decides}
use Rattle.tup_rule.specs.declared.rule.Rule.{Rule}
use Rattle.tup_rule.specs.Rule.{among, maker}
use Rattle.tup_rule.specs.Producer.{MakesFor, ProducerOver, DeclaredProducer}
use Rattle.tup_rule.specs.Makers.{producers}
use Rattle.tup_rule.proofs.Laws.{producer-trans}
use Rattle.tup_clean.specs.Queue.{count_of}
use Rattle.tup_clean.specs.Readers.{AreReaders}
use Rattle.tup_clean.proofs.Counting.{one_if-same, one_if-other, count_of-take, count_of-take-le}
use Rattle.tup_core.specs.declared.waiting.Waiting.{Waiting}
use Rattle.tup_core.specs.Waiting.{flag, number, times, counts, taken, is_last, AreDown, AreWithin, AreInner, AreCounts, AreEntries, Leads, LeadsOver, ProducerBeside, AreWaiters, AreAllWaiters, IsShort, total, waits_in, IsWaiting, CanRelease, Releases}
use Rattle.tup_core.specs.Links.{AreSound, AreWhole, AreNear, AreLinks}
use Rattle.tup_core.proofs.ItemLaws.{set_same, set_other, flag_within}

-- ---- producers of a rule

-- a counted place is what one of the paths leads to
pub makes_one : (maker_of : Names → Option ℕ) (paths : List Names) (other : ℕ) → 0 < count_of other (filter_map maker_of paths) → (path : Names) × (among path paths ≡ true) × (maker_of path ≡ Some other)
makes_one maker_of [] other some = absurd (omega arith)
makes_one maker_of (path ∷ paths) other some =
    by (maker_of path) refl (λ later. let rest = makes_one maker_of paths other later in (rest.0, or_right (same_path rest.0 path) (among rest.0 paths) rest.1, rest.2)) some
  where
    by : (made : Option ℕ) → maker_of path ≡ made → (0 < count_of other (filter_map maker_of paths) → (one : Names) × (among one (path ∷ paths) ≡ true) × (maker_of one ≡ Some other)) →
        0 < count_of other (cons_option made (filter_map maker_of paths)) → (one : Names) × (among one (path ∷ paths) ≡ true) × (maker_of one ≡ Some other)
    by None is later some = later some
    by (Some m) is later some = elim (cases_eq m other) [
      | inl same ↦ (path, or_left (same_path path path) (among path paths) ((same_path-decides path path).1 refl), is ∙ ap Some same)
      | inr apart ↦ later (let none = one_if-other m other apart in omega (arith, none, some))
    ]

-- and what each of the paths leads to is counted
pub counts_one : (maker_of : Names → Option ℕ) (paths : List Names) (path : Names) (other : ℕ) → among path paths ≡ true → maker_of path ≡ Some other → 0 < count_of other (filter_map maker_of paths)
counts_one maker_of [] path other found made = absurd (true≢false (sym found))
counts_one maker_of (first ∷ paths) path other found made =
    elim (or_cases (same_path path first) (among path paths) found) [
      | inl same ↦ here (maker_of first) (ap maker_of (sym ((same_path-decides path first).0 same)) ∙ made)
      | inr later ↦ more (maker_of first) (counts_one maker_of paths path other later made)
    ]
  where
    here : (one : Option ℕ) → one ≡ Some other → 0 < count_of other (cons_option one (filter_map maker_of paths))
    here None is = absurd (none-some other is)
    here (Some m) is = let one = one_if-same m other (same_Some m other is) in omega (arith, one)

    more : (one : Option ℕ) → 0 < count_of other (filter_map maker_of paths) → 0 < count_of other (cons_option one (filter_map maker_of paths))
    more None rest = rest
    more (Some m) rest = omega (arith, rest)

pub produces_makes : (rules : List Rule) (rule : Rule) (other : ℕ) → 0 < count_of other (producers rules rule) → MakesFor rules rule other
produces_makes rules rule other some =
    let one = makes_one (λ path. maker path rules) (rule.inputs ++ rule.order) other some in
    (one.0, sym (list_any-append (same_path one.0) rule.inputs rule.order) ∙ one.1, one.2)

pub makes_produces : (rules : List Rule) (rule : Rule) (other : ℕ) → MakesFor rules rule other → 0 < count_of other (producers rules rule)
makes_produces rules rule other (path, declared, made) =
    counts_one (λ p. maker p rules) (rule.inputs ++ rule.order) path other (list_any-append (same_path path) rule.inputs rule.order ∙ declared) made

-- ---- readers of a rule

-- a list that has something is there
pub there : (lists : List (List ℕ)) (other at : ℕ) → 0 < times lists other at → slice_get lists other ≡ Some (unwrap_or (slice_get lists other) [])
there [] other at some = absurd (omega arith)
there (list ∷ lists) zero at some = refl
there (list ∷ lists) (suc other) at some = there lists other at some

-- a place within a list has an entry
pub entry_of : (lists : List (List ℕ)) (other : ℕ) → other < length lists → slice_get lists other ≡ Some (unwrap_or (slice_get lists other) [])
entry_of [] other within = absurd (omega arith)
entry_of (list ∷ lists) zero within = refl
entry_of (list ∷ lists) (suc other) within = entry_of lists other (omega arith)

-- the readers of all rules are links
pub readers_links : (rules : List Rule) (reached : List Bool) (readers : List (List ℕ)) → length reached ≡ length rules → AreReaders rules readers → AreLinks rules reached readers
readers_links rules reached readers long are = record {
  near = record {
    many = are.many;
    sound = λ other at some. sound other at some (slice_get rules at) refl;
    first = λ other at rule up here makes. whole other at rule (subst (λ (n : ℕ). other < n) long (flag_within reached other up)) here makes;
  };
  others = inr whole;
}
  where
    sound : (other at : ℕ) → 0 < times readers other at → (found : Option Rule) → slice_get rules at ≡ found → (rule : Rule) × (slice_get rules at ≡ Some rule) × MakesFor rules rule other
    sound other at some (Some rule) is =
        (rule, is, produces_makes rules rule other (subst (λ (n : ℕ). 0 < n) (are.each at other rule (unwrap_or (slice_get readers other) []) is (there readers other at some)) some))
    sound other at some None is = absurd (let none = are.within at other (unwrap_or (slice_get readers other) []) is (there readers other at some) in omega (arith, none, some))

    whole : AreWhole rules readers
    whole other at rule within here makes =
        let inside : other < length readers = subst (λ (n : ℕ). other < n) (sym are.many) within in
        subst (λ (n : ℕ). 0 < n) (sym (are.each at other rule (unwrap_or (slice_get readers other) []) here (entry_of readers other inside))) (makes_produces rules rule other makes)

reads_makes : (rules : List Rule) (readers : List (List ℕ)) (other at : ℕ) (rule : Rule) → AreSound rules readers → slice_get rules at ≡ Some rule → 0 < times readers other at → MakesFor rules rule other
reads_makes rules readers other at rule sound here some = let one = sound other at some in subst (λ (r : Rule). MakesFor rules r other) (same_Some one.0 rule (sym one.1 ∙ here)) one.2

-- what a rule leads to is a rule
led_there : (rules : List Rule) (readers : List (List ℕ)) (between from at : ℕ) → AreSound rules readers → Leads between readers from at → (rule : Rule) × (slice_get rules at ≡ Some rule)
led_there rules readers zero from at sound some = let one = sound from at some in (one.0, one.1)
led_there rules readers (suc between) from at sound (next, leads, some) = let one = sound next at some in (one.0, one.1)

-- and it is a declared producer of that
leads_produces : (rules : List Rule) (readers : List (List ℕ)) (between from at : ℕ) (rule : Rule) → AreSound rules readers → slice_get rules at ≡ Some rule → Leads between readers from at → ProducerOver between rules rule from
leads_produces rules readers zero from at rule sound here some = reads_makes rules readers from at rule sound here some
leads_produces rules readers (suc between) from at rule sound here (next, leads, some) =
    let found = led_there rules readers between from next sound leads in
    (next, found.0, reads_makes rules readers next at rule sound here some, found.1, leads_produces rules readers between from next found.0 sound found.1 leads)

-- what is made for a rule over others that weren't reached, stands in lists so
beside_leads : (rules : List Rule) (readers : List (List ℕ)) (reached : List Bool) (between from at : ℕ) (rule : Rule) → AreWhole rules readers → from < length rules → slice_get rules at ≡ Some rule →
    ProducerBeside between rules (flag reached) rule from → LeadsOver between readers reached from at
beside_leads rules readers reached zero from at rule whole within here makes = whole from at rule within here makes
beside_leads rules readers reached (suc between) from at rule whole within here (next, other, makes, placed, outside, rest) =
    (next, beside_leads rules readers reached between from next other whole within placed rest, outside, whole next at rule (slice_get_within rules next other placed) here makes)

-- ---- all waiters

nothing : (list : List ℕ) (at : ℕ) → list ≡ [] → 0 < count_of at list → ⊥
nothing list at none some = let gone : count_of at list ≡ 0 = ap (count_of at) none in omega (arith, gone, some)

module _ (readers lists : List (List ℕ)) (reached entries : List Bool) (all : AreAllWaiters readers reached entries lists) where
  -- what a list has, it has for a rule
  listed_here : (from at : ℕ) → 0 < times lists from at → from < length readers
  listed_here from at some = subst (λ (n : ℕ). from < n) all.many (slice_get_within lists from (unwrap_or (slice_get lists from) []) (there lists from at some))

  -- and that one leads to it
  listed_leads : (from at : ℕ) → 0 < times lists from at → (between : ℕ) × Leads between readers from at
  listed_leads from at some =
      let is = all.each from (listed_here from at some) in
      elim (cases_Bool (flag reached from)) [
        | inl up ↦ (zero, (is.listed up).only at some)
        | inr down ↦ elim (cases_Bool (flag entries from)) [
          | inl entry ↦ (is.behind down entry).led at some
          | inr none ↦ absurd (nothing (unwrap_or (slice_get lists from) []) at (is.others down none) some)
        ]
      ]

  pub waiters_short : IsShort lists
  waiters_short = λ from at. elim (cases_lt 0 (times lists from at)) [
    | inr none ↦ omega (arith, none)
    | inl some ↦
        let is = all.each from (listed_here from at some) in
        elim (cases_Bool (flag reached from)) [
          | inl up ↦ (is.listed up).once at
          | inr down ↦ elim (cases_Bool (flag entries from)) [
            | inl entry ↦ (is.behind down entry).once at
            | inr none ↦ absurd (nothing (unwrap_or (slice_get lists from) []) at (is.others down none) some)
          ]
        ]
  ]

  -- a rule that wasn't reached has reached ones alone
  listed_inner : (from at : ℕ) → flag reached from ≡ false → 0 < times lists from at → flag reached at ≡ true
  listed_inner from at down some =
      let is = all.each from (listed_here from at some) in
      elim (cases_Bool (flag entries from)) [
        | inl entry ↦ (is.behind down entry).inner at some
        | inr none ↦ absurd (nothing (unwrap_or (slice_get lists from) []) at (is.others down none) some)
      ]

-- all that waits stands among the rules
pub waiters_within : (rules : List Rule) (readers lists : List (List ℕ)) (reached entries : List Bool) → AreNear rules reached readers → AreAllWaiters readers reached entries lists → AreWithin lists
waiters_within rules readers lists reached entries are all = λ from at some.
    let leads = listed_leads readers lists reached entries all from at some in
    let found = led_there rules readers leads.0 from at are.sound leads.1 in
    subst (λ (n : ℕ). at < n) (sym (all.many ∙ are.many)) (slice_get_within rules at found.0 found.1)

-- readers stand among the rules
pub readers_within : (rules : List Rule) (reached : List Bool) (readers : List (List ℕ)) → AreNear rules reached readers → AreWithin readers
readers_within rules reached readers are = λ from at some.
    let found = are.sound from at some in
    subst (λ (n : ℕ). at < n) (sym are.many) (slice_get_within rules at found.0 found.1)

-- ---- counts

zero_apart : (n : ℕ) → suc n ≡ zero → ⊥
zero_apart n same = omega (arith, same)

suc_apart : (n m : ℕ) → (n ≡ m → ⊥) → suc n ≡ suc m → ⊥
suc_apart n m apart same = apart (omega (arith, same))

-- one rule counts no longer
pub waits_one : (lists : List (List ℕ)) (counted fewer : ℕ → Bool) (from at : ℕ) → counted from ≡ true → fewer from ≡ false → ((n : ℕ) → (n ≡ from → ⊥) → fewer n ≡ counted n) →
    waits_in lists counted at ≡ waits_in lists fewer at + times lists from at
waits_one [] counted fewer from at up down same = refl
waits_one (list ∷ lists) counted fewer zero at up down same =
    let here : ◌≡◌ {A = ℕ} (if counted zero then count_of at list else 0) (count_of at list) = ap (λ (b : Bool). if b then count_of at list else 0) up in
    let gone : ◌≡◌ {A = ℕ} (if fewer zero then count_of at list else 0) 0 = ap (λ (b : Bool). if b then count_of at list else 0) down in
    let rest : waits_in lists (λ n. counted (suc n)) at ≡ waits_in lists (λ n. fewer (suc n)) at = λ i. waits_in lists (λ n. sym (same (suc n) (zero_apart n)) i) at in
    omega (arith, here, gone, rest)
waits_one (list ∷ lists) counted fewer (suc from) at up down same =
    let here : ◌≡◌ {A = ℕ} (if counted zero then count_of at list else 0) (if fewer zero then count_of at list else 0) =
    ap (λ (b : Bool). if b then count_of at list else 0) (sym (same zero (λ e. zero_apart from (sym e)))) in
    let rest = waits_one lists (λ n. counted (suc n)) (λ n. fewer (suc n)) from at up down (λ n apart. same (suc n) (suc_apart n from apart)) in
    omega (arith, here, rest)

-- one that is counted stands in the list of a rule that counts
pub waits_some : (lists : List (List ℕ)) (counted : ℕ → Bool) (at : ℕ) → 0 < waits_in lists counted at → (from : ℕ) × (counted from ≡ true) × (0 < times lists from at)
waits_some [] counted at some = absurd (omega arith)
waits_some (list ∷ lists) counted at some = elim (cases_Bool (counted zero)) [
  | inr down ↦
      let none : ◌≡◌ {A = ℕ} (if counted zero then count_of at list else 0) 0 = ap (λ (b : Bool). if b then count_of at list else 0) down in
      let rest = waits_some lists (λ n. counted (suc n)) at (omega (arith, none, some)) in
      (suc rest.0, rest.1, rest.2)
  | inl up ↦ elim (cases_lt 0 (count_of at list)) [
    | inl here ↦ (zero, up, here)
    | inr none ↦
        let one : ◌≡◌ {A = ℕ} (if counted zero then count_of at list else 0) (count_of at list) = ap (λ (b : Bool). if b then count_of at list else 0) up in
        let rest = waits_some lists (λ n. counted (suc n)) at (omega (arith, one, none, some)) in
        (suc rest.0, rest.1, rest.2)
  ]
]

-- a list that counts is counted
pub waits_le : (lists : List (List ℕ)) (counted : ℕ → Bool) (from at : ℕ) → counted from ≡ true → times lists from at ≤ waits_in lists counted at
waits_le [] counted from at up = omega arith
waits_le (list ∷ lists) counted zero at up =
    let here : ◌≡◌ {A = ℕ} (if counted zero then count_of at list else 0) (count_of at list) = ap (λ (b : Bool). if b then count_of at list else 0) up in
    omega (arith, here)
waits_le (list ∷ lists) counted (suc from) at up = let rest = waits_le lists (λ n. counted (suc n)) from at up in omega (arith, rest)

-- where the lists that don't count are empty, all are counted
total_waits : (lists : List (List ℕ)) (counted : ℕ → Bool) (at : ℕ) → ((from : ℕ) → counted from ≡ false → times lists from at ≡ 0) → total lists at ≡ waits_in lists counted at
total_waits [] counted at none = refl
total_waits (list ∷ lists) counted at none =
    let rest = total_waits lists (λ n. counted (suc n)) at (λ from down. none (suc from) down) in
    elim (cases_Bool (counted zero)) [
      | inl up ↦
          let here : ◌≡◌ {A = ℕ} (if counted zero then count_of at list else 0) (count_of at list) = ap (λ (b : Bool). if b then count_of at list else 0) up in
          omega (arith, here, rest)
      | inr down ↦
          let here : ◌≡◌ {A = ℕ} (if counted zero then count_of at list else 0) 0 = ap (λ (b : Bool). if b then count_of at list else 0) down in
          let gone : count_of at list ≡ 0 = none zero down in
          omega (arith, here, gone, rest)
    ]

total_le : (lists : List (List ℕ)) (from at : ℕ) → times lists from at ≤ total lists at
total_le [] from at = omega arith
total_le (list ∷ lists) zero at = omega arith
total_le (list ∷ lists) (suc from) at = let rest = total_le lists from at in omega (arith, rest)

-- ---- which rules count

pub counts_up : (reached : ℕ → Bool) (pending : List Bool) (waits : List ℕ) (from : ℕ) → reached from ≡ true → counts reached pending waits from ≡ flag pending from
counts_up reached pending waits from up = ap (λ (b : Bool). if b then flag pending from else nat_lt 0 (number waits from)) up

pub counts_beside : (reached : ℕ → Bool) (pending : List Bool) (waits : List ℕ) (from : ℕ) → reached from ≡ false → counts reached pending waits from ≡ nat_lt 0 (number waits from)
counts_beside reached pending waits from down = ap (λ (b : Bool). if b then flag pending from else nat_lt 0 (number waits from)) down

-- ---- what rules wait for at the start

pub waiting_start : (rules : List Rule) (readers : List (List ℕ)) (reached entries : List Bool) (waiting : Waiting) → length reached ≡ length rules → AreLinks rules reached readers → AreEntries readers reached entries →
    AreAllWaiters readers reached entries waiting.waiters.items → waiting.reached.items ≡ reached → ((at : ℕ) → number waiting.waits.items at ≡ total waiting.waiters.items at) → IsWaiting rules (flag reached) reached waiting
waiting_start rules readers reached entries waiting long are some_up all same sums = record {
  many = all.many ∙ are.near.many;
  flags = λ at. ap (λ (l : List Bool). flag l at) same;
  within = λ at up. up;
  counted = λ at. sums at ∙ total_waits waiting.waiters.items (counts (flag reached) reached waiting.waits.items) at (λ from down. none_listed from at down);
  first = λ from at rule up here makes.
      let within : from < length rules = subst (λ (n : ℕ). from < n) long (flag_within reached from up) in
      ((of from (inside from within)).listed up).all at (are.near.first from at rule up here makes);
  behind = λ from next between at rule up some outside here beside inside_at.
      let reads = ((of from (listed_here readers waiting.waiters.items reached entries all from next some)).listed up).only next some in
      let entry = some_up.up from next up reads in
      let within : next < length readers = subst (λ (n : ℕ). next < n) some_up.many (flag_within entries next entry) in
      elim are.others [
        | inl alone ↦ absurd (true≢false (sym (alone from next reads) ∙ outside))
        | inr whole ↦ ((of next within).behind outside entry).all between at (beside_leads rules readers reached between next at rule whole (subst (λ (n : ℕ). next < n) are.near.many within) here beside) inside_at
      ];
  inner = λ from at down some.
      ap (λ (l : List Bool). flag l at) same ∙ listed_inner readers waiting.waiters.items reached entries all from at (sym (ap (λ (l : List Bool). flag l from) same) ∙ down) some;
  led = λ from at some.
      let leads = listed_leads readers waiting.waiters.items reached entries all from at some in
      let found = led_there rules readers leads.0 from at are.near.sound leads.1 in
      (found.0, found.1, (leads.0, leads_produces rules readers leads.0 from at found.0 are.near.sound found.1 leads.1));
}
  where
    of : (from : ℕ) → from < length readers → AreWaiters readers reached entries from (unwrap_or (slice_get waiting.waiters.items from) [])
    of from within = all.each from within

    inside : (from : ℕ) → from < length rules → from < length readers
    inside from within = subst (λ (n : ℕ). from < n) (sym are.near.many) within

    -- what reads what a reached rule makes is counted
    entry_counted : (from : ℕ) → flag entries from ≡ true → 0 < number waiting.waits.items from
    entry_counted from entry =
        let other = some_up.only from entry in
        let within : other.0 < length readers = inside other.0 (subst (λ (n : ℕ). other.0 < n) long (flag_within reached other.0 other.1)) in
        let some : 0 < times waiting.waiters.items other.0 from = ((of other.0 within).listed other.1).all from other.2 in
        let le = total_le waiting.waiters.items other.0 from in
        let counted = sums from in
        omega (arith, some, le, counted)

    none_listed : (from at : ℕ) → counts (flag reached) reached waiting.waits.items from ≡ false → times waiting.waiters.items from at ≡ 0
    none_listed from at down = elim (cases_lt 0 (times waiting.waiters.items from at)) [
      | inr none ↦ omega (arith, none)
      | inl some ↦ elim (cases_Bool (flag reached from)) [
        | inl up ↦ absurd (true≢false (sym up ∙ sym (counts_up (flag reached) reached waiting.waits.items from up) ∙ down))
        | inr outside ↦ elim (cases_Bool (flag entries from)) [
          | inr none ↦ absurd (nothing (unwrap_or (slice_get waiting.waiters.items from) []) at ((of from (listed_here readers waiting.waiters.items reached entries all from at some)).others outside none) some)
          | inl entry ↦ absurd (true≢false (sym (lt-ltb 0 (number waiting.waits.items from) (entry_counted from entry)) ∙ sym (counts_beside (flag reached) reached waiting.waits.items from outside) ∙ down))
        ]
      ]
    ]

-- ---- who waits

-- a rule is behind a pending one: that makes what it declares, or has a rule in its list that wasn't reached and leads to it
abbrev IsBehind : List Rule → (ℕ → Bool) → List Bool → List (List ℕ) → Rule → Type 0
IsBehind rules reached pending lists rule =
    ((from : ℕ) × (flag pending from ≡ true) × MakesFor rules rule from)
    ⊎ ((from : ℕ) × (entry : ℕ) × (between : ℕ) × (flag pending from ≡ true) × (reached entry ≡ false) × (0 < times lists from entry) × ProducerBeside between rules reached rule entry)

module _ (rules : List Rule) (reached : ℕ → Bool) (pending : List Bool) (waiting : Waiting) (is : IsWaiting rules reached pending waiting) where
  -- what stands in a list that counts is counted
  counted_some : (from at : ℕ) → counts reached pending waiting.waits.items from ≡ true → 0 < times waiting.waiters.items from at → 0 < number waiting.waits.items at
  counted_some from at up some =
      let le = waits_le waiting.waiters.items (counts reached pending waiting.waits.items) from at up in
      let counted = is.counted at in
      omega (arith, le, counted, some)

  pending_counts : (from : ℕ) → flag pending from ≡ true → counts reached pending waiting.waits.items from ≡ true
  pending_counts from up = counts_up reached pending waiting.waits.items from (is.within from up) ∙ up

  -- a reached rule behind a pending one is counted
  behind_waits : (at : ℕ) (rule : Rule) → slice_get rules at ≡ Some rule → reached at ≡ true → IsBehind rules reached pending waiting.waiters.items rule → 0 < number waiting.waits.items at
  behind_waits at rule here inside (inl one) = counted_some one.0 at (pending_counts one.0 one.1) (is.first one.0 at rule (is.within one.0 one.1) here one.2)
  behind_waits at rule here inside (inr one) =
      let counted = counted_some one.0 one.1 (pending_counts one.0 one.3) one.5 in
      counted_some one.1 at (counts_beside reached pending waiting.waits.items one.1 one.4 ∙ lt-ltb 0 (number waiting.waits.items one.1) counted)
      (is.behind one.0 one.1 one.2 at rule (is.within one.0 one.3) one.5 one.4 here one.6 inside)

  -- one more rule on the way
  behind_more : (next : ℕ) (one rule : Rule) → slice_get rules next ≡ Some one → MakesFor rules rule next → reached next ≡ false → IsBehind rules reached pending waiting.waiters.items one → IsBehind rules reached pending waiting.waiters.items rule
  behind_more next one rule placed makes outside (inl it) = inr (it.0, next, zero, it.1, outside, is.first it.0 next one (is.within it.0 it.1) placed it.2, makes)
  behind_more next one rule placed makes outside (inr it) = inr (it.0, it.1, suc it.2, it.3, it.4, it.5, (next, one, makes, placed, outside, it.6))

  -- where each reached rule that isn't pending waits for none, a rule with a pending declared producer is behind a pending one
  is_behind : ((at : ℕ) → reached at ≡ true → flag pending at ≡ false → number waiting.waits.items at ≡ 0) → (between at other : ℕ) (rule : Rule) → slice_get rules at ≡ Some rule → ProducerOver between rules rule other →
      flag pending other ≡ true → IsBehind rules reached pending waiting.waiters.items rule
  is_behind settled zero at other rule here makes up = inl (other, up, makes)
  is_behind settled (suc between) at other rule here (next, one, makes, placed, rest) up =
      let before = is_behind settled between next other one placed rest up in
      elim (cases_Bool (reached next)) [
        | inr outside ↦ behind_more next one rule placed makes outside before
        | inl inside ↦ elim (cases_Bool (flag pending next)) [
          | inl still ↦ inl (next, still, makes)
          | inr done ↦ absurd (
              let none = settled next inside done in
              let some = behind_waits next one placed inside before in
              omega (arith, none, some))
        ]
      ]

  -- what is counted has a pending declared producer
  counted_behind : (at : ℕ) (rule : Rule) → slice_get rules at ≡ Some rule → 0 < waits_in waiting.waiters.items (counts reached pending waiting.waits.items) at → (other : ℕ) × DeclaredProducer rules rule other × (flag pending other ≡ true)
  counted_behind at rule here some =
      let found = waits_some waiting.waiters.items (counts reached pending waiting.waits.items) at some in
      let led = is.led found.0 at found.2 in
      let produced : DeclaredProducer rules rule found.0 = subst (λ (r : Rule). DeclaredProducer rules r found.0) (same_Some _ _ (sym led.1 ∙ here)) led.2 in
      elim (cases_Bool (reached found.0)) [
        | inl inside ↦ (found.0, produced, sym (counts_up reached pending waiting.waits.items found.0 inside) ∙ found.1)
        | inr outside ↦ over found.0 produced outside (ltb-true 0 (number waiting.waits.items found.0) (sym (counts_beside reached pending waiting.waits.items found.0 outside) ∙ found.1))
      ]
    where
      over : (next : ℕ) → DeclaredProducer rules rule next → reached next ≡ false → 0 < number waiting.waits.items next → (other : ℕ) × DeclaredProducer rules rule other × (flag pending other ≡ true)
      over next produced outside counted =
          let sum = is.counted next in
          let first = waits_some waiting.waiters.items (counts reached pending waiting.waits.items) next (omega (arith, sum, counted)) in
          let led = is.led first.0 next first.2 in
          elim (cases_Bool (reached first.0)) [
            | inl inside ↦ (first.0, producer-trans rules rule led.0 next first.0 produced led.1 led.2, sym (counts_up reached pending waiting.waits.items first.0 inside) ∙ first.1)
            | inr beyond ↦ absurd (true≢false (sym (is.inner first.0 next (is.flags first.0 ∙ beyond) first.2) ∙ is.flags next ∙ outside))
          ]

-- so a reached rule that waits for none has no pending declared producer
pub clear_waits : (rules : List Rule) (reached : ℕ → Bool) (pending : List Bool) (waiting : Waiting) → IsWaiting rules reached pending waiting → ((at : ℕ) → reached at ≡ true → flag pending at ≡ false → number waiting.waits.items at ≡ 0) →
    (at other : ℕ) (rule : Rule) → slice_get rules at ≡ Some rule → reached at ≡ true → number waiting.waits.items at ≡ 0 → DeclaredProducer rules rule other → flag pending other ≡ false
clear_waits rules reached pending waiting is settled at other rule here inside none produced = elim (cases_Bool (flag pending other)) [
  | inr down ↦ down
  | inl up ↦ absurd (
      let some = behind_waits rules reached pending waiting is at rule here inside (is_behind rules reached pending waiting is settled produced.0 at other rule here produced.1 up) in
      omega (arith, none, some))
]

-- and the other way round
pub waits_clear : (rules : List Rule) (reached : ℕ → Bool) (pending : List Bool) (waiting : Waiting) (at : ℕ) (rule : Rule) → IsWaiting rules reached pending waiting → slice_get rules at ≡ Some rule →
    ((other : ℕ) → DeclaredProducer rules rule other → flag pending other ≡ false) → number waiting.waits.items at ≡ 0
waits_clear rules reached pending waiting at rule is here clear = elim (cases_lt 0 (waits_in waiting.waiters.items (counts reached pending waiting.waits.items) at)) [
  | inr none ↦ let counted = is.counted at in omega (arith, none, counted)
  | inl some ↦ let found = counted_behind rules reached pending waiting is at rule here some in absurd (true≢false (sym found.2 ∙ clear found.0 found.1))
]

-- ---- one rule is pending no longer

-- its list is counted beside all that count then
less_one : (rules : List Rule) (reached : ℕ → Bool) (pending : List Bool) (waiting : Waiting) (at : ℕ) → IsWaiting rules reached pending waiting → flag pending at ≡ true →
    AreCounts waiting.waiters.items waiting.reached.items (slice_set pending at false) (unwrap_or (slice_get waiting.waiters.items at) []) waiting.waits.items
less_one rules reached pending waiting at is up = λ other.
    is.counted other ∙ (λ i. waits_in waiting.waiters.items (counts (λ n. sym (is.flags n) i) pending waiting.waits.items) other)
    ∙ waits_one waiting.waiters.items (counts (flag waiting.reached.items) pending waiting.waits.items) (counts (flag waiting.reached.items) (slice_set pending at false) waiting.waits.items) at other
    (counts_up (flag waiting.reached.items) pending waiting.waits.items at inside ∙ up)
    (counts_up (flag waiting.reached.items) (slice_set pending at false) waiting.waits.items at inside ∙ set_same pending at false false (flag_within pending at up))
    (λ n apart. ap (λ (b : Bool). if flag waiting.reached.items n then b else nat_lt 0 (number waiting.waits.items n)) (set_other pending at n false false apart))
  where
    inside : flag waiting.reached.items at ≡ true
    inside = is.flags at ∙ is.within at up

pub can_release : (rules : List Rule) (reached : ℕ → Bool) (pending : List Bool) (waiting : Waiting) (at : ℕ) → IsWaiting rules reached pending waiting → at < length rules → flag pending at ≡ true → CanRelease at waiting
can_release rules reached pending waiting at is within up = record {
  here = subst (λ (n : ℕ). at < n) (sym is.many) within;
  within = λ from k some. let led = is.led from k some in subst (λ (n : ℕ). k < n) (sym is.many) (slice_get_within rules k led.0 led.1);
  inner = is.inner;
  held = (slice_set pending at false, less_one rules reached pending waiting at is up);
}

pub released : (rules : List Rule) (reached : ℕ → Bool) (pending : List Bool) (old new : Waiting) (at : ℕ) → IsWaiting rules reached pending old → flag pending at ≡ true → Releases at old new → IsWaiting rules reached (slice_set pending at false) new
released rules reached pending old new at is up done = record {
  many = ap length lists ∙ is.many;
  flags = λ k. ap (λ (l : List Bool). flag l k) flags ∙ is.flags k;
  within = λ k still. is.within k (elim (cases_eq k at) [
    | inl same ↦ absurd (true≢false (sym still ∙ ap (flag (slice_set pending at false)) same ∙ set_same pending at false false (flag_within pending at up)))
    | inr apart ↦ sym (set_other pending at k false false apart) ∙ still
  ]);
  counted = λ k.
      let one = done.counted (slice_set pending at false) (less_one rules reached pending old at is up) k in
      let same : waits_in old.waiters.items (counts (flag old.reached.items) (slice_set pending at false) new.waits.items) k ≡ waits_in new.waiters.items (counts reached (slice_set pending at false) new.waits.items) k =
      λ i. waits_in (sym lists i) (counts (λ n. is.flags n i) (slice_set pending at false) new.waits.items) k in
      omega (arith, one, same);
  first = λ from other rule inside here makes. subst (λ (l : List (List ℕ)). 0 < times l from other) (sym lists) (is.first from other rule inside here makes);
  behind = λ from next between other rule inside some outside here beside inside_other.
      subst (λ (l : List (List ℕ)). 0 < times l next other) (sym lists) (is.behind from next between other rule inside (subst (λ (l : List (List ℕ)). 0 < times l from next) lists some) outside here beside inside_other);
  inner = λ from other down some.
      ap (λ (l : List Bool). flag l other) flags ∙ is.inner from other (sym (ap (λ (l : List Bool). flag l from) flags) ∙ down) (subst (λ (l : List (List ℕ)). 0 < times l from other) lists some);
  led = λ from other some. is.led from other (subst (λ (l : List (List ℕ)). 0 < times l from other) lists some);
}
  where
    lists : new.waiters.items ≡ old.waiters.items
    lists = λ i. (done.lists i).items

    flags : new.reached.items ≡ old.reached.items
    flags = λ i. (done.reached i).items

-- ---- rules that are counted once less, one after another

-- the next of a list, and those after it
left_more : (places : List ℕ) (i place at : ℕ) → i < length places → place ≡ get_or places i 0 → count_of at (drop i places) ≡ count_of at (place ∷ []) + count_of at (drop (i + 1) places)
left_more places i place at less is =
    let more = at_drop_more (count_of at) places i 0 less in
    let same : count_of at (get_or places i 0 ∷ drop (i + 1) places) ≡ count_of at (place ∷ drop (i + 1) places) = ap (λ (p : ℕ). count_of at (p ∷ drop (i + 1) places)) (sym is) in
    omega (arith, more, same)

-- a rule that wasn't reached and is counted once counts
last_counts : (reached pending : List Bool) (waits : List ℕ) (place : ℕ) → is_last reached waits place ≡ true → counts (flag reached) pending waits place ≡ true
last_counts reached pending waits place alone =
    let both = and_parts (not (flag reached place)) (number waits place == 1) alone in
    let one = eqb-true (number waits place) 1 both.1 in
    counts_beside (flag reached) pending waits place (not-true (flag reached place) both.0) ∙ lt-ltb 0 (number waits place) (omega (arith, one))

module _ (lists : List (List ℕ)) (reached pending : List Bool) (places : List ℕ) (i place : ℕ) (less : i < length places) (here : place ≡ get_or places i 0) where
  -- there is enough to take away
  pub counts_enough : (waits : List ℕ) → AreCounts lists reached pending (drop i places) waits → (at : ℕ) → taken lists reached waits place at ≤ number waits at
  counts_enough waits held at =
      let counted = held at in
      let left = left_more places i place at less here in
      elim (cases_Bool (is_last reached waits place)) [
        | inr several ↦
            let none : ◌≡◌ {A = ℕ} (if is_last reached waits place then times lists place at else 0) 0 = ap (λ (b : Bool). if b then times lists place at else 0) several in
            omega (arith, counted, left, none)
        | inl alone ↦
            let all : ◌≡◌ {A = ℕ} (if is_last reached waits place then times lists place at else 0) (times lists place at) = ap (λ (b : Bool). if b then times lists place at else 0) alone in
            let le = waits_le lists (counts (flag reached) pending waits) place at (last_counts reached pending waits place alone) in
            omega (arith, counted, left, all, le)
      ]

  -- what is left is counted
  pub counts_step : (old new : List ℕ) → AreInner lists reached → AreCounts lists reached pending (drop i places) old → ((at : ℕ) → number new at + taken lists reached old place at ≡ number old at) →
      AreCounts lists reached pending (drop (i + 1) places) new
  counts_step old new inner held done = elim (cases_Bool (is_last reached old place)) [
    | inr several ↦ λ at.
        let none : ◌≡◌ {A = ℕ} (if is_last reached old place then times lists place at else 0) 0 = ap (λ (b : Bool). if b then times lists place at else 0) several in
        let same : waits_in lists (counts (flag reached) pending old) at ≡ waits_in lists (counts (flag reached) pending new) at = λ k. waits_in lists (λ n. stays several n k) at in
        let counted = held at in
        let left = left_more places i place at less here in
        let one = done at in
        omega (arith, none, same, counted, left, one)
    | inl alone ↦ λ at.
        let all : ◌≡◌ {A = ℕ} (if is_last reached old place then times lists place at else 0) (times lists place at) = ap (λ (b : Bool). if b then times lists place at else 0) alone in
        let fewer = waits_one lists (counts (flag reached) pending old) (counts (flag reached) pending new) place at (last_counts reached pending old place alone) (gone alone) (others alone) in
        let counted = held at in
        let left = left_more places i place at less here in
        let one = done at in
        omega (arith, all, fewer, counted, left, one)
  ]
    where
      outside_last : is_last reached old place ≡ true → flag reached place ≡ false
      outside_last alone = not-true (flag reached place) (and_parts (not (flag reached place)) (number old place == 1) alone).0

      above_one : (n : ℕ) → 0 < n → (n ≡ 1 → ⊥) → 1 < n
      above_one zero some apart = absurd (omega arith)
      above_one (suc zero) some apart = absurd (apart refl)
      above_one (suc (suc n)) some apart = omega arith

      -- elsewhere a number is the same, if nothing of a list is taken away there
      number_other : (n : ℕ) → (n ≡ place → ⊥) → ◌≡◌ {A = ℕ} (if is_last reached old place then times lists place n else 0) 0 → number new n ≡ number old n
      number_other n apart none =
          let one = done n in
          let other = one_if-other place n (λ same. apart (sym same)) in
          omega (arith, one, other, none)

      some_left : 0 < number old place
      some_left =
          let counted = held place in
          let left = left_more places i place place less here in
          let one = one_if-same place place refl in
          omega (arith, counted, left, one)

      both_some : (a b : ℕ) → 0 < a → 0 < b → nat_lt 0 a ≡ nat_lt 0 b
      both_some a b some more = lt-ltb 0 a some ∙ sym (lt-ltb 0 b more)

      none_there : (n : ℕ) → flag reached n ≡ false → is_last reached old place ≡ true → ◌≡◌ {A = ℕ} (if is_last reached old place then times lists place n else 0) 0
      none_there n outside alone = ap (λ (b : Bool). if b then times lists place n else 0) alone ∙ elim (cases_lt 0 (times lists place n)) [
        | inr none ↦ omega (arith, none)
        | inl some ↦ absurd (true≢false (sym (inner place n (outside_last alone) some) ∙ outside))
      ]

      stays : is_last reached old place ≡ false → (n : ℕ) → counts (flag reached) pending old n ≡ counts (flag reached) pending new n
      stays several n = elim (cases_Bool (flag reached n)) [
        | inl inside ↦ counts_up (flag reached) pending old n inside ∙ sym (counts_up (flag reached) pending new n inside)
        | inr outside ↦ counts_beside (flag reached) pending old n outside ∙ (elim (cases_eq n place) [
          | inr apart ↦ ap (λ (x : ℕ). nat_lt 0 x) (sym (number_other n apart (ap (λ (b : Bool). if b then times lists place n else 0) several)))
          | inl same ↦
              let outside_place : flag reached place ≡ false = ap (flag reached) (sym same) ∙ outside in
              let not_one = eqb-false (number old place) 1 (sym (ap (λ (b : Bool). not b && number old place == 1) outside_place) ∙ several) in
              let more : 1 < number old place = above_one (number old place) some_left not_one in
              let none : ◌≡◌ {A = ℕ} (if is_last reached old place then times lists place place else 0) 0 = ap (λ (b : Bool). if b then times lists place place else 0) several in
              let one = done place in
              let here_one = one_if-same place place refl in
              let still : 0 < number new place = omega (arith, more, none, one, here_one) in
              ap (λ (x : ℕ). nat_lt 0 (number old x)) same ∙ both_some (number old place) (number new place) some_left still ∙ ap (λ (x : ℕ). nat_lt 0 (number new x)) (sym same)
        ]) ∙ sym (counts_beside (flag reached) pending new n outside)
      ]

      gone : is_last reached old place ≡ true → counts (flag reached) pending new place ≡ false
      gone alone =
          let one = eqb-true (number old place) 1 (and_parts (not (flag reached place)) (number old place == 1) alone).1 in
          let taken_here = done place in
          let here_one = one_if-same place place refl in
          let none : number new place ≤ 0 = omega (arith, one, taken_here, here_one) in
          counts_beside (flag reached) pending new place (outside_last alone) ∙ le-ltb 0 (number new place) none

      others : is_last reached old place ≡ true → (n : ℕ) → (n ≡ place → ⊥) → counts (flag reached) pending new n ≡ counts (flag reached) pending old n
      others alone n apart = elim (cases_Bool (flag reached n)) [
        | inl inside ↦ counts_up (flag reached) pending new n inside ∙ sym (counts_up (flag reached) pending old n inside)
        | inr outside ↦
            counts_beside (flag reached) pending new n outside
            ∙ ap (λ (x : ℕ). nat_lt 0 x) (number_other n apart (none_there n outside alone))
            ∙ sym (counts_beside (flag reached) pending old n outside)
      ]

-- the same, of lists, flags and numbers that are equal
pub counts_as : (lists new_lists : List (List ℕ)) (reached new_reached pending : List Bool) (left new_left waits new_waits : List ℕ) → new_lists ≡ lists → new_reached ≡ reached → new_left ≡ left → new_waits ≡ waits →
    AreCounts lists reached pending left waits → AreCounts new_lists new_reached pending new_left new_waits
counts_as lists new_lists reached new_reached pending left new_left waits new_waits same_lists same_reached same_left same_waits held =
    subst (λ (l : List (List ℕ)). AreCounts l new_reached pending new_left new_waits) (sym same_lists)
    (subst (λ (r : List Bool). AreCounts lists r pending new_left new_waits) (sym same_reached)
    (subst (λ (l : List ℕ). AreCounts lists reached pending l new_waits) (sym same_left) (subst (AreCounts lists reached pending left) (sym same_waits) held)))

-- none is left at the end
pub counts_all : (lists : List (List ℕ)) (reached pending : List Bool) (places waits : List ℕ) (i : ℕ) → length places ≤ i → AreCounts lists reached pending (drop i places) waits → AreCounts lists reached pending [] waits
counts_all lists reached pending places waits i past held = subst (λ (l : List ℕ). AreCounts lists reached pending l waits) (at_drop_all (λ (l : List ℕ). l) places i past) held

-- ---- counts up and down

-- numbers that were counted up at some places, and down
abbrev pub CountsUp : List ℕ → List ℕ → List ℕ → Type 0
CountsUp places old new = (at : ℕ) → number new at ≡ number old at + count_of at places

abbrev pub CountsDown : List ℕ → List ℕ → List ℕ → Type 0
CountsDown places old new = (at : ℕ) → number new at + count_of at places ≡ number old at

pub up_none : (numbers : List ℕ) → CountsUp [] numbers numbers
up_none numbers = λ at. omega arith

pub down_none : (numbers : List ℕ) → CountsDown [] numbers numbers
down_none numbers = λ at. omega arith

pub up_more : (places : List ℕ) (i place : ℕ) (old numbers : List ℕ) (value : ℕ) → i < length places → place ≡ get_or places i 0 → place < length numbers → value ≡ number numbers place + 1 → CountsUp (take i places) old numbers →
    CountsUp (take (i + 1) places) old (slice_set numbers place value)
up_more places i place old numbers value less is within raised done = λ at.
    let counts = count_of-take at places i place less is in
    let before = done at in
    elim (cases_eq at place) [
      | inl same ↦
          let here : number (slice_set numbers place value) at ≡ number numbers at + 1 = ap (number (slice_set numbers place value)) same ∙ set_same numbers place value 0 within ∙ raised ∙ ap (λ (n : ℕ). number numbers n + 1) (sym same) in
          let one = one_if-same place at (sym same) in
          omega (arith, counts, before, here, one)
      | inr apart ↦
          let here : number (slice_set numbers place value) at ≡ number numbers at = set_other numbers place at value 0 apart in
          let one = one_if-other place at (λ same. apart (sym same)) in
          omega (arith, counts, before, here, one)
    ]

pub down_more : (places : List ℕ) (i place : ℕ) (old numbers : List ℕ) (value : ℕ) → i < length places → place ≡ get_or places i 0 → place < length numbers → value + 1 ≡ number numbers place → CountsDown (take i places) old numbers →
    CountsDown (take (i + 1) places) old (slice_set numbers place value)
down_more places i place old numbers value less is within lowered done = λ at.
    let counts = count_of-take at places i place less is in
    let before = done at in
    elim (cases_eq at place) [
      | inl same ↦
          let here : number (slice_set numbers place value) at + 1 ≡ number numbers at = ap (λ (n : ℕ). number (slice_set numbers place value) n + 1) same ∙ ap (λ (n : ℕ). n + 1) (set_same numbers place value 0 within) ∙ lowered ∙ ap (number numbers) (sym same) in
          let one = one_if-same place at (sym same) in
          omega (arith, counts, before, here, one)
      | inr apart ↦
          let here : number (slice_set numbers place value) at ≡ number numbers at = set_other numbers place at value 0 apart in
          let one = one_if-other place at (λ same. apart (sym same)) in
          omega (arith, counts, before, here, one)
    ]

-- where a place comes again, its number is not 0 yet, so it stands among them
pub down_some : (places : List ℕ) (i : ℕ) (old numbers : List ℕ) → ((at : ℕ) → count_of at places ≤ number old at) → i < length places → CountsDown (take i places) old numbers → 0 < number numbers (get_or places i 0)
down_some places i old numbers enough less done =
    let place = get_or places i 0 in
    let counts = count_of-take place places i place less refl in
    let one = one_if-same place place refl in
    let whole = count_of-take-le place places (i + 1) in
    let all = enough place in
    let before = done place in
    omega (arith, counts, one, whole, all, before)

-- and a number that still counts up fits
pub up_fits : (places : List ℕ) (i : ℕ) (old numbers : List ℕ) → ((at : ℕ) → number old at + count_of at places < 2 ^ 64) → i < length places → CountsUp (take i places) old numbers → number numbers (get_or places i 0) + 1 < 2 ^ 64
up_fits places i old numbers fits less done =
    let place = get_or places i 0 in
    let counts = count_of-take place places i place less refl in
    let one = one_if-same place place refl in
    let whole = count_of-take-le place places (i + 1) in
    let all = fits place in
    let before = done place in
    omega (arith, counts, one, whole, all, before)

-- ---- totals

total-push : (lists : List (List ℕ)) (list : List ℕ) (at : ℕ) → total (lists ++ list ∷ []) at ≡ total lists at + count_of at list
total-push [] list at = omega arith
total-push (first ∷ lists) list at = let rest = total-push lists list at in omega (arith, rest)

pub total_more : (lists : List (List ℕ)) (i at : ℕ) → i < length lists → total (take (i + 1) lists) at ≡ total (take i lists) at + times lists i at
total_more lists i at less =
    ap (λ (l : List (List ℕ)). total l at) (take_more lists i [] less) ∙ total-push (take i lists) (get_or lists i []) at
    ∙ ap (λ (l : List ℕ). total (take i lists) at + count_of at l) (sym (unwrap_or-slice_get lists i []))

-- no more than one for each list
pub total_small : (lists : List (List ℕ)) (i at : ℕ) → IsShort lists → i ≤ length lists → total (take i lists) at ≤ i
total_small lists zero at short within = omega arith
total_small [] (suc i) at short within = absurd (omega arith)
total_small (list ∷ lists) (suc i) at short within =
    let rest = total_small lists i at (λ other k. short (suc other) k) (omega arith) in
    let here : count_of at list ≤ 1 = short zero at in
    omega (arith, rest, here)

-- ---- lists that are filled in

-- the first rules have their waiters, and nothing is flagged
pub record AreFilled (readers : List (List ℕ)) (reached entries : List Bool) (count : ℕ) (seen : List Bool) (lists : List (List ℕ)) : Type 0 where
  pub long : length seen ≡ length readers
  pub many : length lists ≡ count
  pub down : AreDown seen
  pub each : (from : ℕ) → from < count → AreWaiters readers reached entries from (unwrap_or (slice_get lists from) [])

pub filled_more : (readers : List (List ℕ)) (reached entries : List Bool) (count : ℕ) (seen new : List Bool) (lists : List (List ℕ)) (list : List ℕ) → AreFilled readers reached entries count seen lists → length new ≡ length seen → AreDown new →
    AreWaiters readers reached entries count list → AreFilled readers reached entries (count + 1) new (lists ++ list ∷ [])
filled_more readers reached entries count seen new lists list filled same down waiters = record {
  long = same ∙ filled.long;
  many = length_push lists list ∙ ap (λ (n : ℕ). n + 1) filled.many;
  down = down;
  each = λ from below. elim (cases_eq from count) [
    | inl here ↦
        subst (λ (n : ℕ). AreWaiters readers reached entries n (unwrap_or (slice_get (lists ++ list ∷ []) n) [])) (sym here)
        (subst (AreWaiters readers reached entries count) (sym (unwrap_or-slice_get (lists ++ list ∷ []) count [] ∙ get_or_push lists list [] count filled.many)) waiters)
    | inr apart ↦
        let before : from < count = nearer from apart below in
        let front : from < length lists = subst (λ (n : ℕ). from < n) (sym filled.many) before in
        subst (AreWaiters readers reached entries from) (unwrap_or-slice_get lists from [] ∙ sym (get_or_append_left lists (list ∷ []) [] from front) ∙ sym (unwrap_or-slice_get (lists ++ list ∷ []) from [])) (filled.each from before)
  ];
}
  where
    nearer : (n : ℕ) → (n ≡ count → ⊥) → n < count + 1 → n < count
    nearer n apart below = omega arith

pub filled_all : (readers : List (List ℕ)) (reached entries : List Bool) (count : ℕ) (seen : List Bool) (lists : List (List ℕ)) → AreFilled readers reached entries count seen lists → count ≡ length readers → AreAllWaiters readers reached entries lists
filled_all readers reached entries count seen lists filled all = record {
  many = filled.many ∙ all;
  each = λ from within. filled.each from (subst (λ (n : ℕ). from < n) (sym all) within);
}
