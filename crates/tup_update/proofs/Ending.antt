-- Which rules of a run come to a verdict, and with which verdicts: all that were claimed, but for those that are cut off.
use Rattle.std.proofs.Common.{◌≡◌, ◌≢◌, ◌⊎◌, ◌<◌, ◌≤◌, ◌+◌, inl, inr, ℕ, Bool, true, false, List, [], ◌∷◌, ◌++◌, length, length-append, append-nil, append_assoc, Option, None, Some, refl, sym, ap, subst, arith, ◌∙◌}
use Rattle.std.specs.List.Sorted.{IsPermutation}
use Rattle.std.specs.Prelude.{All, if◌then◌else◌, unwrap_or}
use Rattle.std.specs.Option.{option_map}
use Rattle.std.proofs.lemmas.Bool.{cases_Bool}
use Rattle.std.proofs.lemmas.Option.{none-some, same_Some}
use Rattle.std.proofs.lemmas.List.{length-map}
use Rattle.std.proofs.lemmas.List.Elements.{All-nil, All-cons, All-head, All-tail}
use Rattle.std.proofs.lemmas.List.Sorted.{IsPermutation-append_left, IsPermutation-append_right, IsPermutation-cons, IsPermutation-middle, IsPermutation-refl, IsPermutation-sym, IsPermutation-trans, length_permutation}
use Rattle.tup_path.specs.Name.{Names}
use Rattle.tup_stamp.specs.declared.Stamp.{Stamp}
use Rattle.tup_access.specs.declared.verdict.Verdict.{Verdict}
use Rattle.tup_access.specs.declared.verdict.Verdict.TheVariants.{Good, Failed, IllegalRead, IllegalWrite, Unwritten, TooManyReads}
use Rattle.tup_clean.specs.Clean.{is_good}
use Rattle.tup_core.specs.declared.event.Cause.{Cause}
use Rattle.tup_core.specs.declared.event.Cause.TheVariants.{Bad}
use Rattle.tup_core.specs.declared.event.CoreEvent.{CoreEvent}
use Rattle.tup_core.specs.declared.event.CoreEvent.TheVariants.{Claim, Ask, Deny, Finish, Stop}
use Rattle.tup_core.specs.declared.plan.Plan.{Plan}
use Rattle.tup_core.specs.declared.running.Running.{Running}
use Rattle.tup_core.specs.Step.{State, changed, asked, refused, emptied, stopped_by, ended, after}
use Rattle.tup_core.specs.Run.{IsRun, end_of, claims, seat_of}
use Rattle.tup_core.proofs.Changed.{changed_cases, changed_here}
use Rattle.tup_core.proofs.Orderly.{finished_is}
use Rattle.tup_update.specs.Ended.{ends_at, ends_from, numbers}
use Rattle.tup_update.proofs.Claimed.{Knows, claimed_after, knows_after, seats_finished}
use Rattle.tup_update.proofs.Working.{at_work, others, running_of, same_running, swap_front, work_emptied, work_few, work_free, work_none}

-- all happens at the first seat
abbrev pub Own : CoreEvent → Type 0
Own event = seat_of event ≡ 0

-- it happens at one of the first so many seats
abbrev pub IsBelow : ℕ → CoreEvent → Type 0
IsBelow jobs event = seat_of event < jobs

-- nothing is stopped while a rule runs
abbrev pub Going : State → Option Running → Type 0
Going state None = Unit {0}
Going state (Some it) = state.stopped ≡ None

-- the rules that are cut off: those that a seat runs when it is stopped, and those that still run at the end
abbrev pub cut_off : Plan → ℕ → State → List CoreEvent → List ℕ
cut_off plan jobs state [] = at_work jobs state.seats
cut_off plan jobs state (Claim seat number ∷ events) = cut_off plan jobs (after plan state (Claim seat number)) events
cut_off plan jobs state (Ask seat text answer ∷ events) = cut_off plan jobs (after plan state (Ask seat text answer)) events
cut_off plan jobs state (Deny seat text verdict ∷ events) = cut_off plan jobs (after plan state (Deny seat text verdict)) events
cut_off plan jobs state (Finish seat verdict writes ∷ events) = cut_off plan jobs (after plan state (Finish seat verdict writes)) events
cut_off plan jobs state (Stop seat cause ∷ events) = running_of (state.seats seat) ++ cut_off plan jobs (after plan state (Stop seat cause)) events

-- it is Good
abbrev pub EndsWell : ℕ × Verdict → Type 0
EndsWell end = is_good (Some end.1) ≡ true

-- all seats of a run are those of a board
pub all_seats : (plan : Plan) (events : List CoreEvent) (state : State) → IsRun plan state events → All (IsBelow 16) events
all_seats plan [] state run = All-nil (IsBelow 16)
all_seats plan (Claim seat number ∷ events) state (enabled, run) = All-cons (IsBelow 16) (Claim seat number) events enabled.0 (all_seats plan events (after plan state (Claim seat number)) run)
all_seats plan (Ask seat text answer ∷ events) state ((it, rule, path, runs, asks, may, told), run) = All-cons (IsBelow 16) (Ask seat text answer) events runs.within (all_seats plan events (after plan state (Ask seat text answer)) run)
all_seats plan (Deny seat text verdict ∷ events) state ((it, rule, runs, asks, may), run) = All-cons (IsBelow 16) (Deny seat text verdict) events runs.within (all_seats plan events (after plan state (Deny seat text verdict)) run)
all_seats plan (Finish seat verdict writes ∷ events) state ((it, rule, runs, fits), run) = All-cons (IsBelow 16) (Finish seat verdict writes) events runs.within (all_seats plan events (after plan state (Finish seat verdict writes)) run)
all_seats plan (Stop seat cause ∷ events) state (enabled, run) = All-cons (IsBelow 16) (Stop seat cause) events enabled.0 (all_seats plan events (after plan state (Stop seat cause)) run)

-- a rule that is noted as bad at the end was so before, or its bad end is among the ends, with that verdict
abbrev pub IsNoted : State → ℕ → Verdict → List (ℕ × Verdict) → Type 0
IsNoted state number verdict list =
    (state.bad number ≡ Some verdict) ⊎ ((front back : List (ℕ × Verdict)) × (list ≡ front ++ (number, verdict) ∷ back) × (is_good (Some verdict) ≡ false))

-- All ends are Good but for the last ones, of which there are none where nothing was stopped. Where a bad one has stopped all, no more
-- rules were begun than ended well by then and one for each runner; and where something else has, fewer ends are left than runners.
pub record GoodBefore (final : State) (jobs begun : ℕ) (list : List (ℕ × Verdict)) : Type 0 where
  pub front : List (ℕ × Verdict)
  pub back : List (ℕ × Verdict)
  pub are : list ≡ front ++ back
  pub well : All EndsWell front
  pub none : final.stopped ≡ None → back ≡ []
  pub bad : final.stopped ≡ Some Bad → begun ≤ length front + jobs
  pub other : (cause : Cause) → cause ≢ Bad → final.stopped ≡ Some cause → length back < jobs

-- ---- once all is stopped
-- it stays so
kept_stop : (plan : Plan) (state : State) (cause : Cause) → state.stopped ≡ Some cause → (if plan.keep_going then state.stopped else stopped_by state Bad) ≡ Some cause
kept_stop plan state cause is = by plan.keep_going
  where
    by : (going : Bool) → (if going then state.stopped else stopped_by state Bad) ≡ Some cause
    by true = is
    by false = ap (λ (s : Option Cause). Some (unwrap_or s Bad)) is

pub stop_stays : (plan : Plan) (state : State) (at : ℕ) (verdict : Verdict) (written : List (Names × Stamp)) (cause : Cause) → state.stopped ≡ Some cause → (ended plan state at verdict written).stopped ≡ Some cause
stop_stays plan state at Good written cause is = is
stop_stays plan state at (Failed status) written cause is = kept_stop plan state cause is
stop_stays plan state at (IllegalRead text) written cause is = kept_stop plan state cause is
stop_stays plan state at (IllegalWrite text) written cause is = kept_stop plan state cause is
stop_stays plan state at (Unwritten path) written cause is = kept_stop plan state cause is
stop_stays plan state at TooManyReads written cause is = kept_stop plan state cause is

module _ (plan : Plan) where
  -- a first cause stays the first
  pub stays_stopped : (events : List CoreEvent) (state : State) (cause : Cause) → state.stopped ≡ Some cause → IsRun plan state events → (end_of plan state events).stopped ≡ Some cause
  stays_stopped [] state cause is run = is
  stays_stopped (Claim seat number ∷ events) state cause is (enabled, run) = stays_stopped events (after plan state (Claim seat number)) cause is run
  stays_stopped (Ask seat text answer ∷ events) state cause is (enabled, run) = stays_stopped events (after plan state (Ask seat text answer)) cause is run
  stays_stopped (Deny seat text verdict ∷ events) state cause is (enabled, run) = stays_stopped events (after plan state (Deny seat text verdict)) cause is run
  stays_stopped (Finish seat verdict written ∷ events) state cause is ((running, rule, runs, fits), run) =
      stays_stopped events (after plan state (Finish seat verdict written)) cause
      (ap (λ (s : State). s.stopped) (finished_is plan state seat running verdict written runs.here) ∙ stop_stays plan (emptied state seat) running.rule verdict written cause is) run
  stays_stopped (Stop seat other ∷ events) state cause is (enabled, run) =
      stays_stopped events (after plan state (Stop seat other)) cause (ap (λ (s : Option Cause). Some (unwrap_or s other)) is) run

  -- and nothing is claimed
  pub none_begun : (events : List CoreEvent) (state : State) (cause : Cause) → state.stopped ≡ Some cause → IsRun plan state events → claims events ≡ []
  none_begun [] state cause is run = refl
  none_begun (Claim seat number ∷ events) state cause is (enabled, run) = absurd (none-some cause (sym enabled.2.going ∙ is))
  none_begun (Ask seat text answer ∷ events) state cause is (enabled, run) = none_begun events (after plan state (Ask seat text answer)) cause is run
  none_begun (Deny seat text verdict ∷ events) state cause is (enabled, run) = none_begun events (after plan state (Deny seat text verdict)) cause is run
  none_begun (Finish seat verdict written ∷ events) state cause is ((running, rule, runs, fits), run) =
      none_begun events (after plan state (Finish seat verdict written)) cause
      (ap (λ (s : State). s.stopped) (finished_is plan state seat running verdict written runs.here) ∙ stop_stays plan (emptied state seat) running.rule verdict written cause is) run
  none_begun (Stop seat other ∷ events) state cause is (enabled, run) =
      none_begun events (after plan state (Stop seat other)) cause (ap (λ (s : Option Cause). Some (unwrap_or s other)) is) run

-- ---- what an event leaves running
module _ (plan : Plan) (jobs : ℕ) (state : State) (seat : ℕ) where
  -- a claim moves a rule from those to be claimed to those that run
  pub claim_moves : (number : ℕ) (more : List ℕ) → seat < jobs → state.seats seat ≡ None
      → IsPermutation (at_work jobs state.seats ++ number ∷ more) (at_work jobs (after plan state (Claim seat number)).seats ++ more)
  claim_moves number more below free =
      IsPermutation-trans (old ++ number ∷ more) (number ∷ (old ++ more)) (new ++ more)
      (IsPermutation-middle old number more)
      (IsPermutation-append_left more (number ∷ old) new (IsPermutation-sym new (number ∷ old) put))
    where
      begun : Option Running
      begun = Some (record { rule = number; asks = []; denied = None })

      old : List ℕ
      old = at_work jobs state.seats

      new : List ℕ
      new = at_work jobs (changed state.seats seat begun)

      put : IsPermutation new (number ∷ old)
      put =
          subst (λ (it : Option Running). IsPermutation new (running_of it ++ old)) (changed_here state.seats seat begun)
          (work_emptied jobs seat (changed state.seats seat begun) state.seats below (ap running_of free) (λ i apart. ap running_of (sym (others state.seats seat begun i apart))))

  -- the end of a command takes its rule away
  pub finish_takes : (it : Running) (verdict : Verdict) (written : List (Names × Stamp)) → seat < jobs → state.seats seat ≡ Some it
      → IsPermutation (at_work jobs state.seats) (it.rule ∷ at_work jobs (after plan state (Finish seat verdict written)).seats)
  finish_takes it verdict written below here =
      subst (λ (o : Option Running). IsPermutation (at_work jobs state.seats) (running_of o ++ at_work jobs new)) here
      (work_emptied jobs seat state.seats new below (ap running_of (ap (λ (f : ℕ → Option Running). f seat) is ∙ changed_here state.seats seat None))
      (λ i apart. ap running_of (ap (λ (f : ℕ → Option Running). f i) is ∙ others state.seats seat None i apart)))
    where
      new : ℕ → Option Running
      new = (after plan state (Finish seat verdict written)).seats

      is : new ≡ changed state.seats seat None
      is = seats_finished plan state seat it verdict written here

  -- and so does a stop, with the rule that its seat ran, if it ran one
  pub stop_takes : (cause : Cause) → seat < jobs → IsPermutation (at_work jobs state.seats) (running_of (state.seats seat) ++ at_work jobs (after plan state (Stop seat cause)).seats)
  stop_takes cause below =
      work_emptied jobs seat state.seats (changed state.seats seat None) below (ap running_of (changed_here state.seats seat None)) (λ i apart. ap running_of (others state.seats seat None i apart))

-- ---- which rules come to a verdict
module _ (plan : Plan) (jobs : ℕ) where
  -- those that were begun are those that ended and those that were cut off
  pub all_begun : (events : List CoreEvent) (state : State) (claimed : List (Option ℕ)) → Knows claimed state → All (IsBelow jobs) events → IsRun plan state events →
      IsPermutation (at_work jobs state.seats ++ claims events) (numbers (ends_from claimed events) ++ cut_off plan jobs state events)
  all_begun [] state claimed knows below run =
      subst (λ (l : List ℕ). IsPermutation l (at_work jobs state.seats)) (sym (append-nil (at_work jobs state.seats))) (IsPermutation-refl (at_work jobs state.seats))
  all_begun (Claim seat number ∷ events) state claimed knows below (enabled, run) =
      let event = Claim seat number in
      let new = after plan state event in
      let now = claimed_after claimed event in
      IsPermutation-trans (at_work jobs state.seats ++ number ∷ claims events) (at_work jobs new.seats ++ claims events) (numbers (ends_from now events) ++ cut_off plan jobs new events)
      (claim_moves plan jobs state seat number (claims events) (All-head (IsBelow jobs) event events below) enabled.1)
      (all_begun events new now (knows_after plan state claimed event enabled knows) (All-tail (IsBelow jobs) event events below) run)
  all_begun (Ask seat text answer ∷ events) state claimed knows below (enabled, run) =
      let event = Ask seat text answer in
      let new = after plan state event in
      subst (λ (l : List ℕ). IsPermutation (l ++ claims events) (numbers (ends_from claimed events) ++ cut_off plan jobs new events))
      (same_running state.seats seat (asked text answer) (λ it. refl) jobs)
      (all_begun events new claimed (knows_after plan state claimed event enabled knows) (All-tail (IsBelow jobs) event events below) run)
  all_begun (Deny seat text verdict ∷ events) state claimed knows below (enabled, run) =
      let event = Deny seat text verdict in
      let new = after plan state event in
      subst (λ (l : List ℕ). IsPermutation (l ++ claims events) (numbers (ends_from claimed events) ++ cut_off plan jobs new events))
      (same_running state.seats seat (refused text verdict) (λ it. refl) jobs)
      (all_begun events new claimed (knows_after plan state claimed event enabled knows) (All-tail (IsBelow jobs) event events below) run)
  all_begun (Finish seat verdict written ∷ events) state claimed knows below (enabled, run) =
      let event = Finish seat verdict written in
      let new = after plan state event in
      let it = enabled.0 in
      let here = enabled.2.here in
      let more = claims events in
      let rest = numbers (ends_from claimed events) ++ cut_off plan jobs new events in
      subst (λ (r : Option ℕ). IsPermutation (at_work jobs state.seats ++ more) (numbers (ends_at r verdict (ends_from claimed events)) ++ cut_off plan jobs new events)) (sym (knows.each seat it here))
      (IsPermutation-trans (at_work jobs state.seats ++ more) (it.rule ∷ (at_work jobs new.seats ++ more)) (it.rule ∷ rest)
      (IsPermutation-append_left more (at_work jobs state.seats) (it.rule ∷ at_work jobs new.seats) (finish_takes plan jobs state seat it verdict written (All-head (IsBelow jobs) event events below) here))
      (IsPermutation-cons it.rule (at_work jobs new.seats ++ more) rest
      (all_begun events new claimed (knows_after plan state claimed event enabled knows) (All-tail (IsBelow jobs) event events below) run)))
  all_begun (Stop seat cause ∷ events) state claimed knows below (enabled, run) =
      let event = Stop seat cause in
      let new = after plan state event in
      let this = running_of (state.seats seat) in
      let more = claims events in
      let list = numbers (ends_from claimed events) in
      let cut = cut_off plan jobs new events in
      IsPermutation-trans (at_work jobs state.seats ++ more) (this ++ (list ++ cut)) (list ++ (this ++ cut))
      (IsPermutation-trans (at_work jobs state.seats ++ more) (this ++ (at_work jobs new.seats ++ more)) (this ++ (list ++ cut))
      (subst (IsPermutation (at_work jobs state.seats ++ more)) (append_assoc this (at_work jobs new.seats) more)
      (IsPermutation-append_left more (at_work jobs state.seats) (this ++ at_work jobs new.seats) (stop_takes plan jobs state seat cause (All-head (IsBelow jobs) event events below))))
      (IsPermutation-append_right this (at_work jobs new.seats ++ more) (list ++ cut)
      (all_begun events new claimed (knows_after plan state claimed event enabled knows) (All-tail (IsBelow jobs) event events below) run)))
      (swap_front this list cut)

  -- once all is stopped only what runs comes to an end
  pub few_end : (events : List CoreEvent) (state : State) (claimed : List (Option ℕ)) (cause : Cause) → state.stopped ≡ Some cause → Knows claimed state → All (IsBelow jobs) events → IsRun plan state events →
      length (ends_from claimed events) ≤ length (at_work jobs state.seats)
  few_end events state claimed cause is knows below run =
      let list = ends_from claimed events in
      let cut = cut_off plan jobs state events in
      let long = length_permutation (at_work jobs state.seats ++ claims events) (numbers list ++ cut) (all_begun events state claimed knows below run) in
      let none : length (at_work jobs state.seats ++ claims events) ≡ length (at_work jobs state.seats) =
      ap (λ (l : List ℕ). length (at_work jobs state.seats ++ l)) (none_begun plan events state cause is run) ∙ ap length (append-nil (at_work jobs state.seats)) in
      let parts = length-append (numbers list) cut in
      let many = length-map list (λ (end : ℕ × Verdict). end.0) in
      omega (arith, long, none, parts, many)

  -- where nothing was stopped and nothing runs at the end, none was cut off
  pub none_cut : (events : List CoreEvent) (state : State) → (end_of plan state events).stopped ≡ None → ((seat : ℕ) → (end_of plan state events).seats seat ≡ None) → IsRun plan state events → cut_off plan jobs state events ≡ []
  none_cut [] state going free run = work_none jobs state.seats free
  none_cut (Claim seat number ∷ events) state going free (enabled, run) = none_cut events (after plan state (Claim seat number)) going free run
  none_cut (Ask seat text answer ∷ events) state going free (enabled, run) = none_cut events (after plan state (Ask seat text answer)) going free run
  none_cut (Deny seat text verdict ∷ events) state going free (enabled, run) = none_cut events (after plan state (Deny seat text verdict)) going free run
  none_cut (Finish seat verdict written ∷ events) state going free (enabled, run) = none_cut events (after plan state (Finish seat verdict written)) going free run
  none_cut (Stop seat cause ∷ events) state going free (enabled, run) =
      absurd (none-some (unwrap_or state.stopped cause) (sym going ∙ stays_stopped plan events (after plan state (Stop seat cause)) (unwrap_or state.stopped cause) refl run))

-- ---- at one seat
module _ (plan : Plan) where
  -- what an event leaves at the first seat
  module _ (state : State) (seat : ℕ) (own : seat ≡ 0) where
    put_there : (value : Option Running) → changed state.seats seat value 0 ≡ value
    put_there value = ap (changed state.seats seat value) (sym own) ∙ changed_here state.seats seat value

    there : (it : Option Running) → state.seats seat ≡ it → state.seats 0 ≡ it
    there it is = ap state.seats (sym own) ∙ is

    finished_there : (it : Running) (verdict : Verdict) (written : List (Names × Stamp)) → state.seats seat ≡ Some it → (after plan state (Finish seat verdict written)).seats 0 ≡ None
    finished_there it verdict written is =
        ap (λ (seats : ℕ → Option Running). seats 0) (seats_finished plan state seat it verdict written is) ∙ put_there None

  -- once all is stopped, nothing ends where the first seat runs nothing
  idle : (events : List CoreEvent) (state : State) (cause : Cause) (claimed : List (Option ℕ)) → state.stopped ≡ Some cause → state.seats 0 ≡ None → All Own events → IsRun plan state events → ends_from claimed events ≡ []
  idle [] state cause claimed is none own run = refl
  idle (Claim seat number ∷ events) state cause claimed is none own (enabled, run) = absurd (none-some cause (sym enabled.2.going ∙ is))
  idle (Ask seat text answer ∷ events) state cause claimed is none own ((it, rule, path, runs, asks, may, told), run) =
      absurd (none-some it (sym none ∙ there state seat (All-head Own (Ask seat text answer) events own) (Some it) runs.here))
  idle (Deny seat text verdict ∷ events) state cause claimed is none own ((it, rule, runs, asks, may), run) =
      absurd (none-some it (sym none ∙ there state seat (All-head Own (Deny seat text verdict) events own) (Some it) runs.here))
  idle (Finish seat verdict written ∷ events) state cause claimed is none own ((it, rule, runs, fits), run) =
      absurd (none-some it (sym none ∙ there state seat (All-head Own (Finish seat verdict written) events own) (Some it) runs.here))
  idle (Stop seat other ∷ events) state cause claimed is none own (enabled, run) =
      idle events (after plan state (Stop seat other)) cause claimed (ap (λ (s : Option Cause). Some (unwrap_or s other)) is)
      (put_there state seat (All-head Own (Stop seat other) events own) None) (All-tail Own (Stop seat other) events own) run

  -- those that were begun are those that ended and then those that were cut off
  pub own_begun : (events : List CoreEvent) (state : State) (at : Option Running) (claimed : List (Option ℕ)) → state.seats 0 ≡ at → Knows claimed state → Going state at → All Own events → IsRun plan state events →
      running_of at ++ claims events ≡ numbers (ends_from claimed events) ++ cut_off plan 1 state events
  own_begun [] state at claimed is knows going own run = sym (ap (λ (o : Option Running). running_of o ++ []) is)
  own_begun (Claim seat number ∷ events) state None claimed is knows going own (enabled, run) =
      let event = Claim seat number in
      let it : Running = record { rule = number; asks = []; denied = None } in
      own_begun events (after plan state event) (Some it) (claimed_after claimed event) (put_there state seat (All-head Own event events own) (Some it)) (knows_after plan state claimed event enabled knows) enabled.2.going
      (All-tail Own event events own) run
  own_begun (Claim seat number ∷ events) state (Some it) claimed is knows going own (enabled, run) =
      absurd (none-some it (sym (there state seat (All-head Own (Claim seat number) events own) None enabled.1) ∙ is))
  own_begun (Ask seat text answer ∷ events) state None claimed is knows going own ((it, rule, path, runs, asks, may, told), run) =
      absurd (none-some it (sym is ∙ there state seat (All-head Own (Ask seat text answer) events own) (Some it) runs.here))
  own_begun (Ask seat text answer ∷ events) state (Some it) claimed is knows going own (enabled, run) =
      let event = Ask seat text answer in
      let first = All-head Own event events own in
      own_begun events (after plan state event) (Some (asked text answer it)) claimed
      (put_there state seat first (option_map (asked text answer) (state.seats seat)) ∙ ap (option_map (asked text answer)) (ap state.seats first ∙ is)) (knows_after plan state claimed event enabled knows) going
      (All-tail Own event events own) run
  own_begun (Deny seat text verdict ∷ events) state None claimed is knows going own ((it, rule, runs, asks, may), run) =
      absurd (none-some it (sym is ∙ there state seat (All-head Own (Deny seat text verdict) events own) (Some it) runs.here))
  own_begun (Deny seat text verdict ∷ events) state (Some it) claimed is knows going own (enabled, run) =
      let event = Deny seat text verdict in
      let first = All-head Own event events own in
      own_begun events (after plan state event) (Some (refused text verdict it)) claimed
      (put_there state seat first (option_map (refused text verdict) (state.seats seat)) ∙ ap (option_map (refused text verdict)) (ap state.seats first ∙ is)) (knows_after plan state claimed event enabled knows) going
      (All-tail Own event events own) run
  own_begun (Finish seat verdict written ∷ events) state None claimed is knows going own ((it, rule, runs, fits), run) =
      absurd (none-some it (sym is ∙ there state seat (All-head Own (Finish seat verdict written) events own) (Some it) runs.here))
  own_begun (Finish seat verdict written ∷ events) state (Some it) claimed is knows going own (enabled, run) =
      let event = Finish seat verdict written in
      let first = All-head Own event events own in
      let new = after plan state event in
      let number : enabled.0.rule ≡ it.rule = ap (λ (r : Running). r.rule) (same_Some enabled.0 it (sym enabled.2.here ∙ ap state.seats first ∙ is)) in
      subst (λ (r : Option ℕ). it.rule ∷ claims events ≡ numbers (ends_at r verdict (ends_from claimed events)) ++ cut_off plan 1 new events)
      (sym (knows.each seat enabled.0 enabled.2.here ∙ ap (λ (n : ℕ). Some n) number))
      (ap (λ (rest : List ℕ). it.rule ∷ rest)
      (own_begun events new None claimed (finished_there state seat first enabled.0 verdict written enabled.2.here) (knows_after plan state claimed event enabled knows) tt (All-tail Own event events own) run))
  own_begun (Stop seat cause ∷ events) state None claimed is knows going own (enabled, run) =
      let event = Stop seat cause in
      let first = All-head Own event events own in
      let new = after plan state event in
      let list = numbers (ends_from claimed events) in
      own_begun events new None claimed (put_there state seat first None) (knows_after plan state claimed event enabled knows) tt (All-tail Own event events own) run
      ∙ ap (λ (o : Option Running). list ++ (running_of o ++ cut_off plan 1 new events)) (sym (ap state.seats first ∙ is))
  own_begun (Stop seat cause ∷ events) state (Some it) claimed is knows going own (enabled, run) =
      let event = Stop seat cause in
      let first = All-head Own event events own in
      let new = after plan state event in
      let cut = cut_off plan 1 new events in
      let stopped : new.stopped ≡ Some cause = ap (λ (s : Option Cause). Some (unwrap_or s cause)) going in
      let free = put_there state seat first None in
      let later = All-tail Own event events own in
      let nothing : claims events ≡ [] = none_begun plan events new cause stopped run in
      let none : ends_from claimed events ≡ [] = idle events new cause claimed stopped free later run in
      let none_more : [] ≡ cut =
      sym nothing ∙ own_begun events new None claimed free (knows_after plan state claimed event enabled knows) tt later run ∙ ap (λ (l : List (ℕ × Verdict)). numbers l ++ cut) none in
      ap (λ (more : List ℕ). it.rule ∷ more) (nothing ∙ none_more)
      ∙ ap (λ (o : Option Running). running_of o ++ cut) (sym (ap state.seats first ∙ is))
      ∙ ap (λ (l : List (ℕ × Verdict)). numbers l ++ (running_of (state.seats seat) ++ cut)) (sym none)

-- ---- with which verdicts
-- a Good end stops nothing
good_goes : (plan : Plan) (state : State) (at : ℕ) (verdict : Verdict) (written : List (Names × Stamp)) → is_good (Some verdict) ≡ true → (ended plan state at verdict written).stopped ≡ state.stopped
good_goes plan state at Good written good = refl
good_goes plan state at (Failed status) written good = absurd (cc good)
good_goes plan state at (IllegalRead text) written good = absurd (cc good)
good_goes plan state at (IllegalWrite text) written good = absurd (cc good)
good_goes plan state at (Unwritten path) written good = absurd (cc good)
good_goes plan state at TooManyReads written good = absurd (cc good)

-- a Good end in front
well_more : (final : State) (jobs begun now : ℕ) (end : ℕ × Verdict) (list : List (ℕ × Verdict)) → now ≡ begun + 1 → EndsWell end → GoodBefore final jobs begun list → GoodBefore final jobs now (end ∷ list)
well_more final jobs begun now end list one well is = record {
  front = end ∷ is.front;
  back = is.back;
  are = ap (λ (rest : List (ℕ × Verdict)). end ∷ rest) is.are;
  well = All-cons EndsWell end is.front well is.well;
  none = is.none;
  bad = λ stopped. let few = is.bad stopped in omega (arith, one, few);
  other = is.other;
}

-- nothing ended yet
none_yet : (final : State) (jobs begun : ℕ) → final.stopped ≡ None → GoodBefore final jobs begun []
none_yet final jobs begun going = record {
  front = [];
  back = [];
  are = refl;
  well = All-nil EndsWell;
  none = λ is. refl;
  bad = λ is. absurd (none-some Bad (sym going ∙ is));
  other = λ cause other is. absurd (none-some cause (sym going ∙ is));
}

module _ (plan : Plan) (jobs : ℕ) where
  module _ (off : plan.keep_going ≡ false) where
    bad_stops : (state : State) (at : ℕ) (verdict : Verdict) (written : List (Names × Stamp)) → is_good (Some verdict) ≡ false → state.stopped ≡ None → (ended plan state at verdict written).stopped ≡ Some Bad
    bad_stops state at Good written bad going = absurd (cc bad)
    bad_stops state at (Failed status) written bad going = rw off (ap (λ (s : Option Cause). Some (unwrap_or s Bad)) going)
    bad_stops state at (IllegalRead text) written bad going = rw off (ap (λ (s : Option Cause). Some (unwrap_or s Bad)) going)
    bad_stops state at (IllegalWrite text) written bad going = rw off (ap (λ (s : Option Cause). Some (unwrap_or s Bad)) going)
    bad_stops state at (Unwritten path) written bad going = rw off (ap (λ (s : Option Cause). Some (unwrap_or s Bad)) going)
    bad_stops state at TooManyReads written bad going = rw off (ap (λ (s : Option Cause). Some (unwrap_or s Bad)) going)

    -- how many were begun where the first seats run these and these are claimed
    abbrev many : State → List CoreEvent → ℕ
    many state events = length (at_work jobs state.seats ++ claims events)

    -- a bad end stops all
    stops_here : (events : List CoreEvent) (state new : State) (list : List (ℕ × Verdict)) → new.stopped ≡ Some Bad → IsRun plan new events → GoodBefore (end_of plan new events) jobs (many state events) list
    stops_here events state new list stopped run =
        let last = stays_stopped plan events new Bad stopped run in
        let none : length (at_work jobs state.seats ++ claims events) ≡ length (at_work jobs state.seats) =
        ap (λ (l : List ℕ). length (at_work jobs state.seats ++ l)) (none_begun plan events new Bad stopped run) ∙ ap length (append-nil (at_work jobs state.seats)) in
        let few = work_few jobs state.seats in
        record {
          front = [];
          back = list;
          are = refl;
          well = All-nil EndsWell;
          none = λ is. absurd (none-some Bad (sym is ∙ last));
          bad = λ is. omega (arith, none, few);
          other = λ cause other is. absurd (other (same_Some cause Bad (sym is ∙ last)));
        }

    pub good_before : (events : List CoreEvent) (state : State) (claimed : List (Option ℕ)) → Knows claimed state → All (IsBelow jobs) events → state.stopped ≡ None → IsRun plan state events →
        GoodBefore (end_of plan state events) jobs (many state events) (ends_from claimed events)
    good_before [] state claimed knows below going run = none_yet state jobs (many state []) going
    good_before (Claim seat number ∷ events) state claimed knows below going (enabled, run) =
        let event = Claim seat number in
        let new = after plan state event in
        let now = claimed_after claimed event in
        subst (λ (n : ℕ). GoodBefore (end_of plan new events) jobs n (ends_from now events))
        (length_permutation (at_work jobs state.seats ++ number ∷ claims events) (at_work jobs new.seats ++ claims events)
        (claim_moves plan jobs state seat number (claims events) (All-head (IsBelow jobs) event events below) enabled.1))
        (good_before events new now (knows_after plan state claimed event enabled knows) (All-tail (IsBelow jobs) event events below) going run)
    good_before (Ask seat text answer ∷ events) state claimed knows below going (enabled, run) =
        let event = Ask seat text answer in
        let new = after plan state event in
        subst (λ (l : List ℕ). GoodBefore (end_of plan new events) jobs (length (l ++ claims events)) (ends_from claimed events)) (same_running state.seats seat (asked text answer) (λ it. refl) jobs)
        (good_before events new claimed (knows_after plan state claimed event enabled knows) (All-tail (IsBelow jobs) event events below) going run)
    good_before (Deny seat text verdict ∷ events) state claimed knows below going (enabled, run) =
        let event = Deny seat text verdict in
        let new = after plan state event in
        subst (λ (l : List ℕ). GoodBefore (end_of plan new events) jobs (length (l ++ claims events)) (ends_from claimed events)) (same_running state.seats seat (refused text verdict) (λ it. refl) jobs)
        (good_before events new claimed (knows_after plan state claimed event enabled knows) (All-tail (IsBelow jobs) event events below) going run)
    good_before (Finish seat verdict written ∷ events) state claimed knows below going (enabled, run) =
        let event = Finish seat verdict written in
        let new = after plan state event in
        let it = enabled.0 in
        let here = enabled.2.here in
        let finished : new.stopped ≡ (ended plan (emptied state seat) it.rule verdict written).stopped = ap (λ (s : State). s.stopped) (finished_is plan state seat it verdict written here) in
        subst (λ (r : Option ℕ). GoodBefore (end_of plan new events) jobs (many state events) (ends_at r verdict (ends_from claimed events))) (sym (knows.each seat it here))
        (elim (cases_Bool (is_good (Some verdict))) [
          | inl good ↦
              let long = length_permutation (at_work jobs state.seats ++ claims events) (it.rule ∷ (at_work jobs new.seats ++ claims events))
              (IsPermutation-append_left (claims events) (at_work jobs state.seats) (it.rule ∷ at_work jobs new.seats)
              (finish_takes plan jobs state seat it verdict written (All-head (IsBelow jobs) event events below) here)) in
              well_more (end_of plan new events) jobs (many new events) (many state events) (it.rule, verdict) (ends_from claimed events) (omega (arith, long)) good
              (good_before events new claimed (knows_after plan state claimed event enabled knows) (All-tail (IsBelow jobs) event events below)
              (finished ∙ good_goes plan (emptied state seat) it.rule verdict written good ∙ going) run)
          | inr bad ↦
              stops_here events state new ((it.rule, verdict) ∷ ends_from claimed events) (finished ∙ bad_stops (emptied state seat) it.rule verdict written bad going) run
        ])
    good_before (Stop seat cause ∷ events) state claimed knows below going (enabled, run) =
        let event = Stop seat cause in
        let new = after plan state event in
        let later = All-tail (IsBelow jobs) event events below in
        let stopped : new.stopped ≡ Some cause = ap (λ (s : Option Cause). Some (unwrap_or s cause)) going in
        let last = stays_stopped plan events new cause stopped run in
        let few = few_end plan jobs events new claimed cause stopped (knows_after plan state claimed event enabled knows) later run in
        let free = work_free jobs seat new.seats (All-head (IsBelow jobs) event events below) (changed_here state.seats seat None) in
        record {
          front = [];
          back = ends_from claimed events;
          are = refl;
          well = All-nil EndsWell;
          none = λ is. absurd (none-some cause (sym is ∙ last));
          bad = λ is. absurd (enabled.1 (same_Some cause Bad (sym last ∙ is)));
          other = λ why other is. omega (arith, few, free);
        }

module _ (plan : Plan) where
  -- ---- which rules are noted as bad
  noted : (state : State) (at : ℕ) (verdict : Verdict) (number : ℕ) → is_good (Some verdict) ≡ false →
      ((changed state.bad at (Some verdict) number ≡ state.bad number) × ((number ≡ at → ⊥) ⊎ (is_good (Some verdict) ≡ true)))
      ⊎ ((number ≡ at) × (changed state.bad at (Some verdict) number ≡ Some verdict) × (is_good (Some verdict) ≡ false))
  noted state at verdict number bad =
      elim (changed_cases state.bad at (Some verdict) number) [
        | inl here ↦ inr (here.0, here.1, bad)
        | inr there ↦ inl (there.1, inl there.0)
      ]

  -- what the end of a command notes
  pub noted_ended : (state : State) (at : ℕ) (verdict : Verdict) (written : List (Names × Stamp)) (number : ℕ) →
      (((ended plan state at verdict written).bad number ≡ state.bad number) × ((number ≡ at → ⊥) ⊎ (is_good (Some verdict) ≡ true)))
      ⊎ ((number ≡ at) × ((ended plan state at verdict written).bad number ≡ Some verdict) × (is_good (Some verdict) ≡ false))
  noted_ended state at Good written number = inl (refl, inr refl)
  noted_ended state at (Failed status) written number = noted state at (Failed status) number refl
  noted_ended state at (IllegalRead text) written number = noted state at (IllegalRead text) number refl
  noted_ended state at (IllegalWrite text) written number = noted state at (IllegalWrite text) number refl
  noted_ended state at (Unwritten path) written number = noted state at (Unwritten path) number refl
  noted_ended state at TooManyReads written number = noted state at TooManyReads number refl

  -- what is noted stays noted
  stays_noted : (events : List CoreEvent) (state : State) (number : ℕ) → state.bad number ≢ None → IsRun plan state events → (end_of plan state events).bad number ≢ None
  stays_noted [] state number some run = some
  stays_noted (Claim seat other ∷ events) state number some (enabled, run) = stays_noted events (after plan state (Claim seat other)) number some run
  stays_noted (Ask seat text answer ∷ events) state number some (enabled, run) = stays_noted events (after plan state (Ask seat text answer)) number some run
  stays_noted (Deny seat text verdict ∷ events) state number some (enabled, run) = stays_noted events (after plan state (Deny seat text verdict)) number some run
  stays_noted (Stop seat cause ∷ events) state number some (enabled, run) = stays_noted events (after plan state (Stop seat cause)) number some run
  stays_noted (Finish seat verdict written ∷ events) state number some ((it, rule, runs, fits), run) =
      let new = after plan state (Finish seat verdict written) in
      let is : new.bad number ≡ (ended plan (emptied state seat) it.rule verdict written).bad number = ap (λ (s : State). s.bad number) (finished_is plan state seat it verdict written runs.here) in
      stays_noted events new number
      (λ none. elim (noted_ended (emptied state seat) it.rule verdict written number) [
        | inl same ↦ some (sym same.0 ∙ sym is ∙ none)
        | inr now ↦ none-some verdict (sym none ∙ is ∙ now.1)
      ]) run

  noted_by : (old new : State) (number : ℕ) (verdict : Verdict) (list : List (ℕ × Verdict)) → new.bad number ≡ old.bad number → IsNoted new number verdict list → IsNoted old number verdict list
  noted_by old new number verdict list same (inl before) = inl (sym same ∙ before)
  noted_by old new number verdict list same (inr there) = inr there

  one_before : (state : State) (number : ℕ) (verdict : Verdict) (end : ℕ × Verdict) (list : List (ℕ × Verdict)) → IsNoted state number verdict list → IsNoted state number verdict (end ∷ list)
  one_before state number verdict end list (inl before) = inl before
  one_before state number verdict end list (inr (front, back, is, bad)) = inr (end ∷ front, back, ap (λ (rest : List (ℕ × Verdict)). end ∷ rest) is, bad)

  pub noted_ends : (events : List CoreEvent) (state : State) (claimed : List (Option ℕ)) → Knows claimed state → IsRun plan state events →
      (number : ℕ) (verdict : Verdict) → (end_of plan state events).bad number ≡ Some verdict → IsNoted state number verdict (ends_from claimed events)
  noted_ends [] state claimed knows run number verdict bad = inl bad
  noted_ends (Claim seat other ∷ events) state claimed knows (enabled, run) number verdict bad =
      let new = after plan state (Claim seat other) in
      let now = claimed_after claimed (Claim seat other) in
      noted_by state new number verdict (ends_from now events) refl (noted_ends events new now (knows_after plan state claimed (Claim seat other) enabled knows) run number verdict bad)
  noted_ends (Ask seat text answer ∷ events) state claimed knows (enabled, run) number verdict bad =
      let new = after plan state (Ask seat text answer) in
      noted_by state new number verdict (ends_from claimed events) refl (noted_ends events new claimed (knows_after plan state claimed (Ask seat text answer) enabled knows) run number verdict bad)
  noted_ends (Deny seat text denial ∷ events) state claimed knows (enabled, run) number verdict bad =
      let new = after plan state (Deny seat text denial) in
      noted_by state new number verdict (ends_from claimed events) refl (noted_ends events new claimed (knows_after plan state claimed (Deny seat text denial) enabled knows) run number verdict bad)
  noted_ends (Finish seat given written ∷ events) state claimed knows (enabled, run) number verdict bad =
      let new = after plan state (Finish seat given written) in
      let it = enabled.0 in
      let runs = enabled.2.here in
      let here : new.bad number ≡ (ended plan (emptied state seat) it.rule given written).bad number = ap (λ (s : State). s.bad number) (finished_is plan state seat it given written runs) in
      subst (λ (r : Option ℕ). IsNoted state number verdict (ends_at r given (ends_from claimed events))) (sym (knows.each seat it runs))
      (elim (noted_ends events new claimed (knows_after plan state claimed (Finish seat given written) enabled knows) run number verdict bad) [
        | inr later ↦ one_before state number verdict (it.rule, given) (ends_from claimed events) (inr later)
        | inl now ↦ elim (noted_ended (emptied state seat) it.rule given written number) [
          | inl as_before ↦ inl (sym as_before.0 ∙ sym here ∙ now)
          | inr by_it ↦
              let its : given ≡ verdict = same_Some given verdict (sym by_it.1 ∙ sym here ∙ now) in
              inr ([], ends_from claimed events, ap (λ (one : ℕ × Verdict). one ∷ ends_from claimed events) (both it.rule number given verdict (sym by_it.0) its), subst (λ (v : Verdict). is_good (Some v) ≡ false) its by_it.2)
        ]
      ])
    where
      both : (rule number : ℕ) (given verdict : Verdict) → rule ≡ number → given ≡ verdict → ◌≡◌ {A = ℕ × Verdict} (rule, given) (number, verdict)
      both rule number given verdict one other = ap (λ (n : ℕ). (n, given)) one ∙ ap (λ (v : Verdict). (number, v)) other
  noted_ends (Stop seat cause ∷ events) state claimed knows (enabled, run) number verdict bad =
      let new = after plan state (Stop seat cause) in
      noted_by state new number verdict (ends_from claimed events) refl (noted_ends events new claimed (knows_after plan state claimed (Stop seat cause) enabled knows) run number verdict bad)

  -- and where none is noted, all are Good
  pub none_noted : (events : List CoreEvent) (state : State) (claimed : List (Option ℕ)) → Knows claimed state → IsRun plan state events →
      ((number : ℕ) → (end_of plan state events).bad number ≡ None) → All EndsWell (ends_from claimed events)
  none_noted [] state claimed knows run none = All-nil EndsWell
  none_noted (Claim seat other ∷ events) state claimed knows (enabled, run) none =
      none_noted events (after plan state (Claim seat other)) (claimed_after claimed (Claim seat other)) (knows_after plan state claimed (Claim seat other) enabled knows) run none
  none_noted (Ask seat text answer ∷ events) state claimed knows (enabled, run) none =
      none_noted events (after plan state (Ask seat text answer)) claimed (knows_after plan state claimed (Ask seat text answer) enabled knows) run none
  none_noted (Deny seat text denial ∷ events) state claimed knows (enabled, run) none =
      none_noted events (after plan state (Deny seat text denial)) claimed (knows_after plan state claimed (Deny seat text denial) enabled knows) run none
  none_noted (Finish seat given written ∷ events) state claimed knows (enabled, run) none =
      subst (λ (r : Option ℕ). All EndsWell (ends_at r given (ends_from claimed events))) (sym (knows.each seat enabled.0 enabled.2.here))
      (All-cons EndsWell (enabled.0.rule, given) (ends_from claimed events) good
      (none_noted events (after plan state (Finish seat given written)) claimed (knows_after plan state claimed (Finish seat given written) enabled knows) run none))
    where
      good : is_good (Some given) ≡ true
      good =
          let new = after plan state (Finish seat given written) in
          let it = enabled.0 in
          let here : new.bad it.rule ≡ (ended plan (emptied state seat) it.rule given written).bad it.rule = ap (λ (s : State). s.bad it.rule) (finished_is plan state seat it given written enabled.2.here) in
          elim (noted_ended (emptied state seat) it.rule given written it.rule) [
            | inl same ↦ elim same.1 [ inl apart ↦ absurd (apart refl) | inr well ↦ well ]
            | inr now ↦ absurd (stays_noted events new it.rule (λ nothing. none-some given (sym nothing ∙ here ∙ now.1)) run (none it.rule))
          ]
  none_noted (Stop seat cause ∷ events) state claimed knows (enabled, run) none =
      none_noted events (after plan state (Stop seat cause)) claimed (knows_after plan state claimed (Stop seat cause) enabled knows) run none
