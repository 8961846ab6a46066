-- Rules that are taken from a queue are taken in the order of the definition: each as the first that is ready.
use Rattle.std.proofs.Common.{◌≡◌, ℕ, zero, suc, ◌+◌, ◌-◌, ◌<◌, ◌≤◌, ◌==◌, nat_lt, Bool, IsTrue, true, false, not, ◌&&◌, ◌||◌, List, [], ◌∷◌, ◌++◌, length, Option, None, Some, replicate, refl, sym, ap, ◌∙◌, subst, inl, inr, arith}
use Rattle.std.proofs.lemmas.Bool.{cases_eq, cases_lt, eq-eqb, ne_eqb, and_parts, lt-ltb, le-ltb, false≢true}
use Rattle.std.proofs.lemmas.Option.{slice_get_within}
use Rattle.std.proofs.lemmas.List.Folds.{list_all-append}
use Rattle.std.specs.List.{slice_get, slice_set, list_all, zip, filter_map, cons_option}
use Rattle.std.specs.Option.{is_none}
use Rattle.tup_path.specs.Name.{Names}
use Rattle.tup_rule.specs.declared.rule.Rule.{Rule}
use Rattle.tup_rule.specs.Rule.{maker}
use Rattle.tup_access.specs.declared.verdict.Verdict.{Verdict}
use Rattle.tup_access.specs.Judge.{Judged, IsJudged}
use Rattle.tup_access.specs.Verdict.{verdict}
use Rattle.tup_runner.specs.Next.{Next}
use Rattle.tup_clean.specs.declared.queue.Queue.{Queue}
use Rattle.tup_clean.specs.Clean.{Build, is_good, good_at, first_ready, given, with_files, builds_on}
use Rattle.tup_rule.specs.Makers.{producers}
use Rattle.tup_clean.specs.Ran.{command_of, commands_of}
use Rattle.tup_clean.specs.Queue.{waits_for, IsQueue, is_ready, IsNext, CanRelease, Notes}
use Rattle.tup_clean.specs.Ready.{is_made, makers_good, next_ready, IsGrown}
use Rattle.tup_clean.specs.Taken.{Taken, takes_on}
use Rattle.tup_clean.proofs.Places.{position_here, position_found, zip_here, zip_first, zip_second, set_here, set_apart}
use Rattle.tup_clean.proofs.Counting.{waits_for-zero}
use Rattle.tup_clean.proofs.Growing.{grown_start, grown_more, none_good, next_ready-first_ready}
use Rattle.tup_clean.proofs.Queueing.{can_release}
use Rattle.tup_clean.proofs.Building.{IsUnderWay, under_way_start, under_way_more, under_way_none, under_way_end, under_way_left}
use Rattle.tup_clean.proofs.Turns.{told_append, told_more}

-- whether the rule at a place has no verdict
abbrev pub is_left : List (Option Verdict) → ℕ → Bool
is_left verdicts at = elim (slice_get verdicts at) [ Some given ↦ is_none given | None ↦ false ]

-- ---- to wait for none is to have Good makers

made_by_all : (rules : List Rule) (verdicts : List (Option Verdict)) (paths : List Names) → list_all (good_at verdicts) (filter_map (λ path. maker path rules) paths) ≡ list_all (is_made rules verdicts) paths
made_by_all rules verdicts [] = refl
made_by_all rules verdicts (path ∷ paths) = by (maker path rules) (made_by_all rules verdicts paths)
  where
    by : (m : Option ℕ) → list_all (good_at verdicts) (filter_map (λ path. maker path rules) paths) ≡ list_all (is_made rules verdicts) paths →
        list_all (good_at verdicts) (cons_option m (filter_map (λ path. maker path rules) paths)) ≡ (elim m as (λ _. Bool) [ None ↦ true | Some at ↦ good_at verdicts at ] && list_all (is_made rules verdicts) paths)
    by None rest = rest
    by (Some at) rest = ap (λ b. good_at verdicts at && b) rest

waits_for_makers : (rules : List Rule) (verdicts : List (Option Verdict)) (rule : Rule) → (waits_for (good_at verdicts) (producers rules rule) == 0) ≡ makers_good rules verdicts rule
waits_for_makers rules verdicts rule =
    waits_for-zero (good_at verdicts) (producers rules rule)
    ∙ made_by_all rules verdicts (rule.inputs ++ rule.order)
    ∙ list_all-append (is_made rules verdicts) rule.inputs rule.order

-- ---- the first that is ready

-- the test of the rule that comes next
abbrev passes : List Rule → List (Option Verdict) → Rule × Option Verdict → Bool
passes rules verdicts p = is_none p.1 && makers_good rules verdicts p.0

is_ready-passes : (rules : List Rule) (verdicts : List (Option Verdict)) (at : ℕ) (p : Rule × Option Verdict) → slice_get (zip rules verdicts) at ≡ Some p → is_ready rules (is_left verdicts) (good_at verdicts) at ≡ passes rules verdicts p
is_ready-passes rules verdicts at p here =
    let one : is_ready rules (is_left verdicts) (good_at verdicts) at ≡ (is_left verdicts at && waits_for (good_at verdicts) (producers rules p.0) == 0) =
    ap (λ (o : Option Rule). elim o as (λ _. Bool) [ Some rule ↦ is_left verdicts at && waits_for (good_at verdicts) (producers rules rule) == 0 | None ↦ false ]) (zip_first rules verdicts at p here) in
    let two : is_left verdicts at ≡ is_none p.1 = ap (λ (o : Option (Option Verdict)). elim o as (λ _. Bool) [ Some given ↦ is_none given | None ↦ false ]) (zip_second rules verdicts at p here) in
    one ∙ (λ k. two k && waits_for_makers rules verdicts p.0 k)

-- a rule that is ready
pub record IsReadyAt (rules : List Rule) (verdicts : List (Option Verdict)) (at : ℕ) : Type 0 where
  pub rule : Rule
  pub here : slice_get rules at ≡ Some rule
  pub none : slice_get verdicts at ≡ Some None

pub ready_at : (rules : List Rule) (verdicts : List (Option Verdict)) (at : ℕ) → is_ready rules (is_left verdicts) (good_at verdicts) at ≡ true → IsReadyAt rules verdicts at
ready_at rules verdicts at ready = by_rule (slice_get rules at) refl ready
  where
    by_given : (rule : Rule) → slice_get rules at ≡ Some rule → (o : Option (Option Verdict)) → slice_get verdicts at ≡ o → elim o as (λ _. Bool) [ Some given ↦ is_none given | None ↦ false ] ≡ true → IsReadyAt rules verdicts at
    by_given rule here (Some None) there left = record { rule = rule; here = here; none = there }
    by_given rule here (Some (Some given)) there left = absurd (false≢true left)
    by_given rule here None there left = absurd (false≢true left)

    by_rule : (o : Option Rule) → slice_get rules at ≡ o → elim o as (λ _. Bool) [ Some rule ↦ is_left verdicts at && waits_for (good_at verdicts) (producers rules rule) == 0 | None ↦ false ] ≡ true → IsReadyAt rules verdicts at
    by_rule (Some rule) here test = by_given rule here (slice_get verdicts at) refl (and_parts (is_left verdicts at) _ test).0
    by_rule None here test = absurd (false≢true test)

pub first_is : (rules : List Rule) (verdicts : List (Option Verdict)) (at : ℕ) → is_ready rules (is_left verdicts) (good_at verdicts) at ≡ true →
    ((other : ℕ) → other < at → is_ready rules (is_left verdicts) (good_at verdicts) other ≡ false) → next_ready rules verdicts ≡ Some at
first_is rules verdicts at ready before =
    let there = ready_at rules verdicts at ready in
    let here = zip_here rules verdicts at there.rule None there.here there.none in
    position_here (passes rules verdicts) (zip rules verdicts) at (there.rule, None) here
    (sym (is_ready-passes rules verdicts at (there.rule, None) here) ∙ ready)
    (λ other pair below found. sym (is_ready-passes rules verdicts other pair found) ∙ before other below)

pub none_is : (rules : List Rule) (verdicts : List (Option Verdict)) → ((at : ℕ) → is_ready rules (is_left verdicts) (good_at verdicts) at ≡ false) → next_ready rules verdicts ≡ None
none_is rules verdicts none = by (next_ready rules verdicts) refl
  where
    by : (o : Option ℕ) → next_ready rules verdicts ≡ o → next_ready rules verdicts ≡ None
    by None e = e
    by (Some at) e =
        let found = position_found (passes rules verdicts) (zip rules verdicts) at e in
        absurd (false≢true (sym (none at) ∙ is_ready-passes rules verdicts at found.0 found.1 ∙ found.2))

-- ---- a queue of rules with these verdicts

pub record IsQueued (rules : List Rule) (verdicts : List (Option Verdict)) (queue : Queue) : Type 0 where
  pub grown : IsGrown rules verdicts
  pub waiting : IsQueue rules (is_left verdicts) (good_at verdicts) queue

-- what a queue knows of a rule is all that counts
queue_same : (rules : List Rule) (left left_too good good_too : ℕ → Bool) (queue : Queue) → IsQueue rules left good queue → ((at : ℕ) → left at ≡ left_too at) → ((at : ℕ) → good at ≡ good_too at) → IsQueue rules left_too good_too queue
queue_same rules left left_too good good_too queue is same_left same_good =
    subst (λ (l : ℕ → Bool). IsQueue rules l good_too queue) (λ i at. same_left at i)
    (subst (λ (g : ℕ → Bool). IsQueue rules left g queue) (λ i at. same_good at i) is)

left_first : (n at : ℕ) → is_left (replicate n None) at ≡ nat_lt at n
left_first zero at = sym (le-ltb at 0 (omega arith))
left_first (suc n) zero = sym (lt-ltb 0 (suc n) (omega arith))
left_first (suc n) (suc at) = left_first n at ∙ elim (cases_lt at n) [
  | inl below ↦ lt-ltb at n below ∙ sym (lt-ltb (suc at) (suc n) (omega arith))
  | inr above ↦ le-ltb at n above ∙ sym (le-ltb (suc at) (suc n) (omega arith))
]

-- at first no rule has a verdict
pub queued_start : (rules : List Rule) (verdicts : List (Option Verdict)) (queue : Queue) → verdicts ≡ replicate (length rules) None → IsQueue rules (λ at. nat_lt at (length rules)) (λ at. false) queue →
    IsQueued rules verdicts queue
queued_start rules verdicts queue none is = record {
  grown = rw none (grown_start rules (length rules));
  waiting = queue_same rules _ _ _ _ queue is
      (λ at. sym (ap (λ given. is_left given at) none ∙ left_first (length rules) at))
      (λ at. sym (ap (λ given. good_at given at) none ∙ none_good (length rules) at));
}

-- no rule is ready
pub none_ready : (rules : List Rule) (verdicts : List (Option Verdict)) (queue after : Queue) → IsQueued rules verdicts queue → IsNext rules (is_left verdicts) (good_at verdicts) None after → first_ready rules verdicts ≡ None
none_ready rules verdicts queue after queued none = sym (next_ready-first_ready rules verdicts queued.grown) ∙ none_is rules verdicts none

module _ (rules : List Rule) (verdicts : List (Option Verdict)) (at : ℕ) (left : Queue) (next : IsNext rules (is_left verdicts) (good_at verdicts) (Some at) left) where
  pub taken_at : IsReadyAt rules verdicts at
  taken_at = ready_at rules verdicts at next.0

  not_good : good_at verdicts at ≡ false
  not_good = rw (taken_at.none, good_at) refl

  -- its readers can be released
  pub can_note : CanRelease at left
  can_note = can_release rules _ (good_at verdicts) left at taken_at.rule next.2 taken_at.here not_good

  next_is : next_ready rules verdicts ≡ Some at
  next_is = first_is rules verdicts at next.0 next.1

  -- it is the first that is ready
  pub ready_is : (queue : Queue) → IsQueued rules verdicts queue → first_ready rules verdicts ≡ Some at
  ready_is queue queued = sym (next_ready-first_ready rules verdicts queued.grown) ∙ next_is

  -- it was given its verdict
  pub queued_more : (rule : Rule) (outcome : Verdict) (queue noted : Queue) → IsQueued rules verdicts queue → slice_get rules at ≡ Some rule → Notes at (is_good (Some outcome)) left noted →
      IsQueued rules (slice_set verdicts at (Some outcome)) noted
  queued_more rule outcome queue noted queued here notes = record {
    grown = grown_more rules verdicts at rule outcome queued.grown next_is here;
    waiting = queue_same rules _ _ _ _ noted (notes rules (λ other. is_left verdicts other && not (other == at)) (good_at verdicts) next.2 not_good) is_left_still is_good_now;
  }
    where
      after : List (Option Verdict)
      after = slice_set verdicts at (Some outcome)

      room : at < length verdicts
      room = slice_get_within verdicts at None taken_at.none

      given_here : slice_get after at ≡ Some (Some outcome)
      given_here = set_here verdicts at (Some outcome) room

      given_apart : (other : ℕ) → (other ≡ at → ⊥) → slice_get after other ≡ slice_get verdicts other
      given_apart other apart = set_apart verdicts at other (Some outcome) apart

      and_false : (b : Bool) → (b && false) ≡ false
      and_false true = refl
      and_false false = refl

      and_true : (b : Bool) → (b && true) ≡ b
      and_true true = refl
      and_true false = refl

      or_false : (b : Bool) → (b || false) ≡ b
      or_false true = refl
      or_false false = refl

      is_left_still : (other : ℕ) → (is_left verdicts other && not (other == at)) ≡ is_left after other
      is_left_still other = elim (cases_eq other at) [
        | inl same ↦
            let before : (is_left verdicts other && not (other == at)) ≡ false = rw (eq-eqb other at same) (and_false (is_left verdicts other)) in
            let later : is_left after other ≡ false = rw (same, is_left, given_here) refl in
            before ∙ sym later
        | inr apart ↦
            let before : (is_left verdicts other && not (other == at)) ≡ is_left verdicts other = rw (ne_eqb other at apart) (and_true (is_left verdicts other)) in
            let later : is_left after other ≡ is_left verdicts other = rw (is_left, given_apart other apart) refl in
            before ∙ sym later
      ]

      is_good_now : (other : ℕ) → (good_at verdicts other || is_good (Some outcome) && other == at) ≡ good_at after other
      is_good_now other = elim (cases_eq other at) [
        | inl same ↦
            let before : (good_at verdicts other || is_good (Some outcome) && other == at) ≡ is_good (Some outcome) =
            rw (eq-eqb other at same, and_true (is_good (Some outcome)), same, not_good) refl in
            let later : good_at after other ≡ is_good (Some outcome) = rw (same, good_at, given_here) refl in
            before ∙ sym later
        | inr apart ↦
            let before : (good_at verdicts other || is_good (Some outcome) && other == at) ≡ good_at verdicts other =
            rw (ne_eqb other at apart, and_false (is_good (Some outcome))) (or_false (good_at verdicts other)) in
            let later : good_at after other ≡ good_at verdicts other = rw (good_at, given_apart other apart) refl in
            before ∙ sym later
      ]

-- ---- a build under way, with its queue; what it comes to is known where the runner tells its meaning

pub record IsGoing (tells : Bool) (means : Next) (rules : List Rule) (begun now : Build) (count : ℕ) (taken : List Taken) (queue : Queue) : Type 0 where
  pub queued : IsQueued rules now.verdicts queue
  pub way : IsTrue tells → IsUnderWay means rules begun now count taken

pub going_start : (tells : Bool) (means : Next) (rules : List Rule) (begun : Build) (queue : Queue) → begun.verdicts ≡ replicate (length rules) None → IsQueue rules (λ at. nat_lt at (length rules)) (λ at. false) queue →
    IsGoing tells means rules begun begun 0 [] queue
going_start tells means rules begun queue none is = record {
  queued = queued_start rules begun.verdicts queue none is;
  way = λ told. under_way_start means rules begun;
}

module _ (tells : Bool) (means : Next) (rules : List Rule) (begun now : Build) (count : ℕ) (taken : List Taken) (queue : Queue) (going : IsGoing tells means rules begun now count taken queue) where
  -- nothing is ready any more
  pub going_none : (after : Queue) → IsNext rules (is_left now.verdicts) (good_at now.verdicts) None after → IsTrue tells →
      (now ≡ builds_on (length rules) means rules begun) × (taken ≡ takes_on (length rules) means rules begun)
  going_none after none told = under_way_none means rules begun now count taken (going.way told) (none_ready rules now.verdicts queue after going.queued none)

  pub going_end : length rules ≤ count → IsTrue tells → (now ≡ builds_on (length rules) means rules begun) × (taken ≡ takes_on (length rules) means rules begun)
  going_end all told = under_way_end means rules begun now count taken (going.way told) all

  -- the commands that were run, and those that are left
  pub going_left : IsTrue tells → commands_of rules taken ++ commands_of rules (takes_on (length rules - count) means rules now) ≡ commands_of rules (takes_on (length rules) means rules begun)
  going_left told = sym (told_append command_of rules taken _) ∙ ap (commands_of rules) (sym (going.way told).rest)

  module _ (at : ℕ) (left : Queue) (next : IsNext rules (is_left now.verdicts) (good_at now.verdicts) (Some at) left) (within : count < length rules) (rule : Rule) (here : slice_get rules at ≡ Some rule) where
    pub going_more : (after : Build) (judged : Judged) (noted : Queue) → (IsTrue tells → IsJudged judged.verdict judged.files (verdict means rules rule now.tree)) → Notes at (is_good (Some judged.verdict)) left noted →
        after.tree ≡ with_files now.tree judged.files → after.verdicts ≡ slice_set now.verdicts at (Some judged.verdict) → IsGoing tells means rules begun after (count + 1) (taken ++ (at, judged.verdict) ∷ []) noted
    going_more after judged noted is notes tree verdicts = record {
      queued = subst (λ (v : List (Option Verdict)). IsQueued rules v noted) (sym verdicts) (queued_more rules now.verdicts at left next rule judged.verdict queue noted going.queued here notes);
      way = λ told.
          under_way_more means rules begun now after count at rule judged taken (going.way told) within (ready_is rules now.verdicts at left next queue going.queued) here
          (λ i. record { verdict = (is told).0 i; files = (is told).1 i }) tree verdicts;
    }

    -- and behind the next rule
    pub going_left_next : IsTrue tells → (commands_of rules taken ++ command_of rule ∷ []) ++ commands_of rules (takes_on (length rules - (count + 1)) means rules (given means rules now at rule)) ≡ commands_of rules (takes_on (length rules) means rules begun)
    going_left_next told =
        let one : Taken = (at, (verdict means rules rule now.tree).verdict) in
        let rest = takes_on (length rules - (count + 1)) means rules (given means rules now at rule) in
        ap (λ (l : List (Names × List ℕ)). l ++ commands_of rules rest) (sym (told_more command_of rules taken one rule here))
        ∙ sym (told_append command_of rules (taken ++ one ∷ []) rest)
        ∙ ap (commands_of rules) (under_way_left means rules begun now count at rule taken (going.way told) within (ready_is rules now.verdicts at left next queue going.queued) here)
