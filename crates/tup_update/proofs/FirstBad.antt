-- The first bad verdict of a history, found event by event.
use Rattle.std.proofs.Common.{◌≡◌, ◌≢◌, ◌<◌, ◌+◌, drop, get_or, length, ◌⊎◌, inl, inr, ⊎_elim, ℕ, Bool, true, false, if◌then◌else◌, List, [], ◌∷◌, Option, Some, None, refl, sym, ap, subst, arith, ◌∙◌}
use Rattle.std.specs.List.{slice_get}
use Rattle.std.specs.Option.{IfSome, IsSome, unwrap_or}
use Rattle.std.proofs.lemmas.Option.{none-some, same_Some}
use Rattle.tup_path.specs.Name.{Names}
use Rattle.tup_stamp.specs.declared.Stamp.{Stamp}
use Rattle.tup_rule.specs.declared.rule.Rule.{Rule}
use Rattle.tup_access.specs.declared.verdict.Verdict.{Verdict}
use Rattle.tup_access.specs.declared.verdict.Verdict.TheVariants.{Good, Failed, IllegalRead, IllegalWrite, Unwritten, TooManyReads}
use Rattle.tup_core.specs.declared.event.Cause.{Cause}
use Rattle.tup_core.specs.declared.event.Cause.TheVariants as cause
use Rattle.tup_core.specs.declared.event.CoreEvent.{CoreEvent}
use Rattle.tup_core.specs.declared.event.CoreEvent.TheVariants.{Claim, Ask, Deny, Finish, Stop}
use Rattle.tup_core.specs.declared.plan.Plan.{Plan}
use Rattle.tup_core.specs.declared.running.Running.{Running}
use Rattle.tup_core.specs.Step.{IsEnabled, State, after, changed, emptied, ended, opening, stopped_by}
use Rattle.tup_core.specs.Run.{IsRun, end_of}
use Rattle.tup_core.proofs.Changed.{changed_here}
use Rattle.tup_core.proofs.Orderly.{finished_is}
use Rattle.tup_clean.specs.Clean.{is_good}
use Rattle.tup_update.specs.Run.{IsBadRule, IsLower, IsLowest}
use Rattle.tup_update.specs.declared.ended.BadRule.{BadRule}
use Rattle.tup_update.specs.Ended.{claimed_by, nothing_claimed}
use Rattle.tup_update.proofs.Claimed.{Knows, claimed_after, knows_after, knows_none}
use Rattle.tup_update.proofs.Taking.{next_left}
use Rattle.tup_update.proofs.Working.{others}

-- ---- one verdict more
module _ (rules : List Rule) (bad : ℕ → Option Verdict) (one : BadRule) (here : slice_get rules one.number ≡ Some one.rule.now) where
  abbrev pub now_bad : ℕ → Option Verdict
  now_bad = changed bad one.number (Some one.verdict.now)

  -- it is the first where none was bad before it
  first_now : ((other : ℕ) → other < one.number → bad other ≡ None) → IsLowest rules now_bad (Some one)
  first_now none = record {
    here = here;
    came = changed_here bad one.number (Some one.verdict.now);
    first = λ other less. others bad one.number (Some one.verdict.now) other (λ same. omega (arith, less, same)) ∙ none other less;
  }

  -- and one before it stays the first
  first_still : (was : BadRule) → was.number < one.number → IsLowest rules bad (Some was) → IsLowest rules now_bad (Some was)
  first_still was before lowest = record {
    here = lowest.here;
    came = others bad one.number (Some one.verdict.now) was.number (λ same. omega (arith, before, same)) ∙ lowest.came;
    first = λ other less. others bad one.number (Some one.verdict.now) other (λ same. omega (arith, before, less, same)) ∙ lowest.first other less;
  }

  pub put_bad : (first result : Option BadRule) → IsLowest rules bad first → IsLower first (Some one) result → IsLowest rules now_bad result
  put_bad None result lowest lower = subst (IsLowest rules now_bad) (sym lower) (first_now (λ other less. lowest other))
  put_bad (Some was) result lowest (inl (before, is)) = subst (IsLowest rules now_bad) (sym is) (first_now (λ other less. lowest.first other (omega (arith, before, less))))
  put_bad (Some was) result lowest (inr (after, is)) = subst (IsLowest rules now_bad) (sym is) (first_still was after lowest)

-- the verdicts that aren't Good are noted
ended_badly : (plan : Plan) (state : State) (at : ℕ) (verdict : Verdict) (writes : List (Names × Stamp)) → verdict ≢ Good → (ended plan state at verdict writes).bad ≡ changed state.bad at (Some verdict)
ended_badly plan state at Good writes differ = absurd (differ refl)
ended_badly plan state at (Failed status) writes differ = refl
ended_badly plan state at (IllegalRead text) writes differ = refl
ended_badly plan state at (IllegalWrite text) writes differ = refl
ended_badly plan state at (Unwritten path) writes differ = refl
ended_badly plan state at TooManyReads writes differ = refl

-- a verdict is Good, or it isn't
good_or : (verdict : Verdict) → (verdict ≡ Good) ⊎ (verdict ≢ Good)
good_or Good = inl refl
good_or (Failed status) = inr (λ e. cc)
good_or (IllegalRead text) = inr (λ e. cc)
good_or (IllegalWrite text) = inr (λ e. cc)
good_or (Unwritten path) = inr (λ e. cc)
good_or TooManyReads = inr (λ e. cc)

-- of two bad rules the lower one is bad
abbrev pub IsBadOne : Option BadRule → Type 0
IsBadOne first = IfSome first (λ one. is_good (Some one.verdict.now) ≡ false)

pub lower_bad : (first other result : Option BadRule) → IsLower first other result → IsBadOne first → IsBadOne other → IsBadOne result
lower_bad first None result lower bad there = subst IsBadOne (sym lower) bad
lower_bad None (Some other) result lower bad there = subst IsBadOne (sym lower) there
lower_bad (Some first) (Some other) result (inl (before, is)) bad there = subst IsBadOne (sym is) there
lower_bad (Some first) (Some other) result (inr (after, is)) bad there = subst IsBadOne (sym is) bad

-- ---- one event more
-- what was read of a history: the state then, what each seat claimed last, and the first bad verdict
pub record IsReading (plan : Plan) (last : State) (rest : List CoreEvent) (claimed : List (Option ℕ)) (first : Option BadRule) : Type 0 where
  pub state : State
  pub run : IsRun plan state rest
  pub ends : end_of plan state rest ≡ last
  pub knows : Knows claimed state
  pub lowest : IsLowest plan.rules state.bad first

module _ (plan : Plan) (last : State) (rest : List CoreEvent) (claimed : List (Option ℕ)) (first : Option BadRule) where
  -- an event by which no command ended
  reads_on : (event : CoreEvent) (is : IsReading plan last (event ∷ rest) claimed first) → (after plan is.state event).bad ≡ is.state.bad → IsReading plan last rest (claimed_after claimed event) first
  reads_on event is same = record {
    state = after plan is.state event;
    run = is.run.1;
    ends = is.ends;
    knows = knows_after plan is.state claimed event is.run.0 is.knows;
    lowest = subst (λ (bad : ℕ → Option Verdict). IsLowest plan.rules bad first) (sym same) is.lowest;
  }

  -- a claim
  pub reads_claim : (seat number : ℕ) → IsReading plan last (Claim seat number ∷ rest) claimed first → IsReading plan last rest (claimed_after claimed (Claim seat number)) first
  reads_claim seat number is = reads_on (Claim seat number) is refl

  -- the end of a command
  module _ (seat : ℕ) (verdict : Verdict) (writes : List (Names × Stamp)) (is : IsReading plan last (Finish seat verdict writes ∷ rest) claimed first) where
    -- the rule that the seat runs
    abbrev ran : Running
    ran = is.run.0.0

    abbrev number : ℕ
    number = ran.rule

    abbrev ran_rule : Rule
    ran_rule = is.run.0.1

    -- it is there, and the seat claimed it last
    ran_here : slice_get plan.rules number ≡ Some ran_rule
    ran_here = is.run.0.2.placed

    ran_claimed : claimed_by claimed seat ≡ Some number
    ran_claimed = is.knows.each seat ran is.run.0.2.here

    ends_so : after plan is.state (Finish seat verdict writes) ≡ ended plan (emptied is.state seat) number verdict writes
    ends_so = finished_is plan is.state seat ran verdict writes is.run.0.2.here

    -- with the first bad verdict then
    reads_end : (next : Option BadRule) → IsLowest plan.rules (ended plan (emptied is.state seat) number verdict writes).bad next → IsReading plan last rest claimed next
    reads_end next lowest = record {
      state = after plan is.state (Finish seat verdict writes);
      run = is.run.1;
      ends = is.ends;
      knows = knows_after plan is.state claimed (Finish seat verdict writes) is.run.0 is.knows;
      lowest = subst (λ (s : State). IsLowest plan.rules s.bad next) (sym ends_so) lowest;
    }

    reads_good : verdict ≡ Good → IsReading plan last rest claimed first
    reads_good good =
        reads_end first (subst (λ (v : Verdict). IsLowest plan.rules (ended plan (emptied is.state seat) number v writes).bad first) (sym good) is.lowest)

    reads_bad : verdict ≢ Good → (one : BadRule) → one.number ≡ number → one.rule.now ≡ ran_rule → one.verdict.now ≡ verdict → (next : Option BadRule) → IsLower first (Some one) next
        → IsReading plan last rest claimed next
    reads_bad differ one same rule came next lower =
        reads_end next
        (subst (λ (bad : ℕ → Option Verdict). IsLowest plan.rules bad next)
        (ap (λ (n : ℕ). changed is.state.bad n (Some one.verdict.now)) same ∙ ap (λ (v : Verdict). changed is.state.bad number (Some v)) came ∙ sym (ended_badly plan (emptied is.state seat) number verdict writes differ))
        (put_bad plan.rules is.state.bad one (ap (slice_get plan.rules) same ∙ ran_here ∙ ap (λ (r : Rule). Some r) (sym rule)) first next is.lowest lower))

    -- as it is found
    pub reads_finish : (given : Option ℕ) → given ≡ claimed_by claimed seat → (found next : Option BadRule) → (verdict ≡ Good → found ≡ None)
        → (verdict ≢ Good → (at : ℕ) (rule : Rule) → given ≡ Some at → slice_get plan.rules at ≡ Some rule → IsBadRule at rule verdict found) → IsLower first found next → IsReading plan last rest claimed next
    reads_finish given is_it found next none some lower = ⊎_elim
        (λ good. subst (IsReading plan last rest claimed) (sym (subst (λ (o : Option BadRule). IsLower first o next) (none good) lower)) (reads_good good))
        (λ differ.
        let bad = some differ number ran_rule (is_it ∙ ran_claimed) ran_here in
        reads_bad differ bad.0 bad.2 bad.3 bad.4 next (subst (λ (o : Option BadRule). IsLower first o next) bad.1 lower))
        (good_or verdict)

  -- an event that is no claim and no end
  pub reads_other : (event : CoreEvent) → ((seat number : ℕ) → event ≢ Claim seat number) → ((seat : ℕ) (verdict : Verdict) (writes : List (Names × Stamp)) → event ≢ Finish seat verdict writes)
      → IsReading plan last (event ∷ rest) claimed first → IsReading plan last rest claimed first
  reads_other (Claim seat number) no_claim no_end is = absurd (no_claim seat number refl)
  reads_other (Ask seat text answer) no_claim no_end is = reads_on (Ask seat text answer) is refl
  reads_other (Deny seat text verdict) no_claim no_end is = reads_on (Deny seat text verdict) is refl
  reads_other (Finish seat verdict writes) no_claim no_end is = absurd (no_end seat verdict writes refl)
  reads_other (Stop seat cause) no_claim no_end is = reads_on (Stop seat cause) is refl

-- ---- the next event of a history
-- all that was read of a history up to a place
abbrev pub AllRead : Plan → List CoreEvent → ℕ → List (Option ℕ) → Option BadRule → Type 0
AllRead plan history k claimed first =
    (files : List (Names × Stamp)) → IsRun plan (opening plan files) history → IsReading plan (end_of plan (opening plan files) history) (drop k history) claimed first

module _ (plan : Plan) (history : List CoreEvent) (k : ℕ) (within : k < length history) (claimed : List (Option ℕ)) (first : Option BadRule) (read : AllRead plan history k claimed first) (event it : CoreEvent)
    (at : event ≡ get_or history k event) (is : event ≡ it) where
  -- what is left begins with it
  pub next_read : (files : List (Names × Stamp)) → IsRun plan (opening plan files) history → IsReading plan (end_of plan (opening plan files) history) (it ∷ drop (k + 1) history) claimed first
  next_read files run =
      subst (λ (left : List CoreEvent). IsReading plan (end_of plan (opening plan files) history) left claimed first)
      (next_left history k it within (subst (λ (e : CoreEvent). e ≡ get_or history k e) is at)) (read files run)

-- ---- a whole history
pub reads_first : (plan : Plan) (files : List (Names × Stamp)) (history : List CoreEvent) → IsRun plan (opening plan files) history → IsReading plan (end_of plan (opening plan files) history) history nothing_claimed None
reads_first plan files history run = record {
  state = opening plan files;
  run = run;
  ends = refl;
  knows = knows_none plan files;
  lowest = λ number. refl;
}

pub read_all : (plan : Plan) (last : State) (rest : List CoreEvent) (claimed : List (Option ℕ)) (first : Option BadRule) → rest ≡ [] → IsReading plan last rest claimed first → IsLowest plan.rules last.bad first
read_all plan last rest claimed first none is =
    let end : is.state ≡ last = subst (λ (left : List CoreEvent). end_of plan is.state left ≡ last) none is.ends in
    subst (λ (s : State). IsLowest plan.rules s.bad first) end is.lowest

-- ---- a run that was stopped for a bad verdict
-- where the core is stopped for a bad verdict there is one, and the plan doesn't keep going
abbrev pub HasBad : Plan → State → Type 0
HasBad plan state = state.stopped ≡ Some cause.Bad → (plan.keep_going ≡ false) × (number : ℕ) × IsSome (state.bad number)

module _ (plan : Plan) where
  stops_badly : (state : State) (going : Bool) → plan.keep_going ≡ going → HasBad plan state → (at : ℕ) (verdict : Verdict) → (if going then state.stopped else stopped_by state cause.Bad) ≡ Some cause.Bad
      → (plan.keep_going ≡ false) × (number : ℕ) × IsSome (changed state.bad at (Some verdict) number)
  stops_badly state true going has at verdict is = let was = has is in (was.0, at, subst IsSome (sym (changed_here state.bad at (Some verdict))) refl)
  stops_badly state false going has at verdict is = (going, at, subst IsSome (sym (changed_here state.bad at (Some verdict))) refl)

  bad_ended : (state : State) (at : ℕ) (verdict : Verdict) (writes : List (Names × Stamp)) → HasBad plan state → HasBad plan (ended plan state at verdict writes)
  bad_ended state at Good writes has = has
  bad_ended state at (Failed status) writes has = stops_badly state plan.keep_going refl has at (Failed status)
  bad_ended state at (IllegalRead text) writes has = stops_badly state plan.keep_going refl has at (IllegalRead text)
  bad_ended state at (IllegalWrite text) writes has = stops_badly state plan.keep_going refl has at (IllegalWrite text)
  bad_ended state at (Unwritten path) writes has = stops_badly state plan.keep_going refl has at (Unwritten path)
  bad_ended state at TooManyReads writes has = stops_badly state plan.keep_going refl has at TooManyReads

  bad_stopped : (state : State) (why : Cause) (was : Option Cause) → state.stopped ≡ was → why ≢ cause.Bad → HasBad plan state → Some (unwrap_or was why) ≡ Some cause.Bad
      → (plan.keep_going ≡ false) × (number : ℕ) × IsSome (state.bad number)
  bad_stopped state why None stopped other has is = absurd (other (same_Some why cause.Bad is))
  bad_stopped state why (Some first) stopped other has is = has (stopped ∙ is)

  bad_after : (state : State) (event : CoreEvent) → HasBad plan state → IsEnabled plan state event → HasBad plan (after plan state event)
  bad_after state (Claim seat rule) has enabled = has
  bad_after state (Ask seat text answer) has enabled = has
  bad_after state (Deny seat text verdict) has enabled = has
  bad_after state (Finish seat verdict writes) has (running, rule, runs, fits) =
      subst (HasBad plan) (sym (finished_is plan state seat running verdict writes runs.here)) (bad_ended (emptied state seat) running.rule verdict writes has)
  bad_after state (Stop seat why) has enabled = bad_stopped state why state.stopped refl enabled.1 has

  has_bad : (events : List CoreEvent) (state : State) → HasBad plan state → IsRun plan state events → HasBad plan (end_of plan state events)
  has_bad [] state has run = has
  has_bad (event ∷ events) state has (enabled, run) = has_bad events (after plan state event) (bad_after state event has enabled) run

  pub bad_is_there : (files : List (Names × Stamp)) (events : List CoreEvent) → IsRun plan (opening plan files) events → HasBad plan (end_of plan (opening plan files) events)
  bad_is_there files events run = has_bad events (opening plan files) (λ stopped. absurd (none-some cause.Bad stopped)) run
