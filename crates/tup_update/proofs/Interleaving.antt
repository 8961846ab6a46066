-- How the begins and the ends of a run follow each other.
use Rattle.std.proofs.Common.{◌≡◌, ◌<◌, ◌≤◌, ◌+◌, ◌*◌, ℕ, Bool, true, false, List, [], ◌∷◌, ◌++◌, length, length-append, append-nil, append_assoc, map, Option, None, Some, refl, sym, ap, subst, arith, ◌∙◌}
use Rattle.std.specs.List.Sorted.{IsPermutation}
use Rattle.std.specs.Prelude.{All, unwrap_or}
use Rattle.std.proofs.lemmas.Option.{none-some}
use Rattle.std.proofs.lemmas.List.{length-map}
use Rattle.std.proofs.lemmas.List.Elements.{All-head, All-tail}
use Rattle.std.proofs.lemmas.List.Sorted.{IsPermutation-append_left, IsPermutation-cons, IsPermutation-map, IsPermutation-middle, IsPermutation-refl, IsPermutation-sym, IsPermutation-trans, length_permutation}
use Rattle.tup_path.specs.Name.{Names}
use Rattle.tup_stamp.specs.declared.Stamp.{Stamp}
use Rattle.tup_access.specs.declared.verdict.Verdict.{Verdict}
use Rattle.tup_core.specs.declared.event.Cause.{Cause}
use Rattle.tup_core.specs.declared.event.CoreEvent.{CoreEvent}
use Rattle.tup_core.specs.declared.event.CoreEvent.TheVariants.{Claim, Ask, Deny, Finish, Stop}
use Rattle.tup_core.specs.declared.plan.Plan.{Plan}
use Rattle.tup_core.specs.declared.running.Running.{Running}
use Rattle.tup_core.specs.Run.{IsRun, claims}
use Rattle.tup_core.specs.Step.{State, after, asked, changed, emptied, ended, is_reached, opening, refused}
use Rattle.tup_core.proofs.Orderly.{claimed_ended, finished_is}
use Rattle.tup_schedule.specs.Room.{unclaimed}
use Rattle.tup_schedule.proofs.Rooms.{opening_come, unclaimed_fewer}
use Rattle.tup_promise.specs.Interleaved.{Interleave}
use Rattle.tup_promise.specs.declared.log.Step.{Step}
use Rattle.tup_promise.specs.declared.log.Step.TheVariants.{Begin, End}
use Rattle.tup_update.specs.Ended.{ends, ends_at, ends_from, nothing_claimed, numbers}
use Rattle.tup_update.specs.Steps.{steps_of}
use Rattle.tup_update.proofs.Claimed.{Knows, claimed_after, knows_after, knows_none}
use Rattle.tup_update.proofs.Ending.{IsBelow, all_seats, claim_moves, finish_takes, stop_stays, stop_takes}
use Rattle.tup_update.proofs.Working.{at_work, running_of, same_running, swap_front, work_free, work_none}

-- ---- how many there are
-- a rule that wasn't claimed may begin and end, and one that a seat runs may end
few_steps : (plan : Plan) (seats : ℕ) (events : List CoreEvent) (state : State) → All (IsBelow seats) events → All (λ number. is_reached plan number ≡ true) (claims events) → IsRun plan state events
    → length (steps_of events) ≤ 2 * unclaimed state.claimed plan.reach + length (at_work seats state.seats)
few_steps plan seats [] state below reached run = omega arith
few_steps plan seats (Claim seat number ∷ events) state below reached (enabled, run) =
    let event = Claim seat number in
    let new = after plan state event in
    let old = at_work seats state.seats in
    let Reached : ℕ → Type 0 = λ one. is_reached plan one ≡ true in
    let rest : length (steps_of events) ≤ 2 * unclaimed (changed state.claimed number true) plan.reach + length (at_work seats new.seats) =
    few_steps plan seats events new (All-tail (IsBelow seats) event events below) (All-tail Reached number (claims events) reached) run in
    let fewer = unclaimed_fewer state.claimed number plan.reach (All-head Reached number (claims events) reached) enabled.2.unclaimed in
    let moved = length_permutation (old ++ number ∷ []) (at_work seats new.seats ++ []) (claim_moves plan seats state seat number [] (All-head (IsBelow seats) event events below) enabled.1) in
    let before = length-append old (number ∷ []) in
    let now = ap length (append-nil (at_work seats new.seats)) in
    omega (arith, rest, fewer, moved, before, now)
few_steps plan seats (Ask seat text answer ∷ events) state below reached (enabled, run) =
    let event = Ask seat text answer in
    subst (λ (l : List ℕ). length (steps_of events) ≤ 2 * unclaimed state.claimed plan.reach + length l) (same_running state.seats seat (asked text answer) (λ it. refl) seats)
    (few_steps plan seats events (after plan state event) (All-tail (IsBelow seats) event events below) reached run)
few_steps plan seats (Deny seat text verdict ∷ events) state below reached (enabled, run) =
    let event = Deny seat text verdict in
    subst (λ (l : List ℕ). length (steps_of events) ≤ 2 * unclaimed state.claimed plan.reach + length l) (same_running state.seats seat (refused text verdict) (λ it. refl) seats)
    (few_steps plan seats events (after plan state event) (All-tail (IsBelow seats) event events below) reached run)
few_steps plan seats (Finish seat verdict written ∷ events) state below reached ((it, rule, runs, fits), run) =
    let event = Finish seat verdict written in
    let new = after plan state event in
    let rest = few_steps plan seats events new (All-tail (IsBelow seats) event events below) reached run in
    let same : unclaimed new.claimed plan.reach ≡ unclaimed state.claimed plan.reach =
    ap (λ (s : State). unclaimed s.claimed plan.reach) (finished_is plan state seat it verdict written runs.here)
    ∙ ap (λ (c : ℕ → Bool). unclaimed c plan.reach) (claimed_ended plan (emptied state seat) it.rule verdict written) in
    let taken = length_permutation (at_work seats state.seats) (it.rule ∷ at_work seats new.seats) (finish_takes plan seats state seat it verdict written (All-head (IsBelow seats) event events below) runs.here) in
    omega (arith, rest, same, taken)
few_steps plan seats (Stop seat cause ∷ events) state below reached (enabled, run) =
    let event = Stop seat cause in
    let new = after plan state event in
    let this = running_of (state.seats seat) in
    let rest : length (steps_of events) ≤ 2 * unclaimed state.claimed plan.reach + length (at_work seats new.seats) =
    few_steps plan seats events new (All-tail (IsBelow seats) event events below) reached run in
    let taken = length_permutation (at_work seats state.seats) (this ++ at_work seats new.seats) (stop_takes plan seats state seat cause (All-head (IsBelow seats) event events below)) in
    let both = length-append this (at_work seats new.seats) in
    omega (arith, rest, taken, both)

-- so there is room for them where there is for a begin and an end of each rule that a plan has to run
pub steps_fit : (plan : Plan) (files : List (Names × Stamp)) (history : List CoreEvent) → IsRun plan (opening plan files) history → All (λ number. is_reached plan number ≡ true) (claims history)
    → length (steps_of history) ≤ 2 * length plan.reach
steps_fit plan files history run reached =
    let few : length (steps_of history) ≤ 2 * unclaimed (λ _. false) plan.reach + 0 =
    subst (λ (l : List ℕ). length (steps_of history) ≤ 2 * unclaimed (λ _. false) plan.reach + length l) (work_none 16 (λ _. None) (λ i. refl))
    (few_steps plan 16 history (opening plan files) (all_seats plan history (opening plan files) run) reached run) in
    let come = opening_come plan files in
    omega (arith, few, come)

-- ---- which rules are under way
-- they are those that the first so many seats run, and those that were cut off: none before all is stopped
pub record AreGoing (jobs : ℕ) (state : State) (going : List ℕ) : Type 0 where
  pub lost : List ℕ
  pub are : IsPermutation going (at_work jobs state.seats ++ lost)
  pub none : state.stopped ≡ None → lost ≡ []

going_none : (plan : Plan) (jobs : ℕ) (files : List (Names × Stamp)) → AreGoing jobs (opening plan files) []
going_none plan jobs files = record {
  lost = [];
  are = subst (λ (l : List ℕ). IsPermutation [] (l ++ [])) (sym (work_none jobs (λ _. None) (λ i. refl))) (IsPermutation-refl []);
  none = λ going. refl;
}

going_same : (jobs : ℕ) (old new : State) (going : List ℕ) → at_work jobs new.seats ≡ at_work jobs old.seats → new.stopped ≡ old.stopped → AreGoing jobs old going → AreGoing jobs new going
going_same jobs old new going work stops are = record {
  lost = are.lost;
  are = subst (λ (l : List ℕ). IsPermutation going (l ++ are.lost)) (sym work) are.are;
  none = λ is. are.none (sym stops ∙ is);
}

module _ (plan : Plan) (jobs : ℕ) (state : State) (going : List ℕ) (are : AreGoing jobs state going) (seat : ℕ) (below : seat < jobs) where
  abbrev old : List ℕ
  old = at_work jobs state.seats

  -- a claim adds a rule to fewer than there are runners
  going_few : state.seats seat ≡ None → state.stopped ≡ None → length going < jobs
  going_few free going_on =
      let few = work_free jobs seat state.seats below free in
      let long = length_permutation going (old ++ are.lost) are.are in
      let all : length (old ++ are.lost) ≡ length old = ap (λ (l : List ℕ). length (old ++ l)) (are.none going_on) ∙ ap length (append-nil old) in
      omega (arith, few, long, all)

  going_claim : (number : ℕ) → state.seats seat ≡ None → AreGoing jobs (after plan state (Claim seat number)) (number ∷ going)
  going_claim number free =
      let new = at_work jobs (after plan state (Claim seat number)).seats in
      record {
        lost = are.lost;
        are =
            IsPermutation-trans (number ∷ going) (number ∷ (old ++ are.lost)) (new ++ are.lost)
            (IsPermutation-cons number going (old ++ are.lost) are.are)
            (IsPermutation-trans (number ∷ (old ++ are.lost)) (old ++ number ∷ are.lost) (new ++ are.lost)
            (IsPermutation-sym (old ++ number ∷ are.lost) (number ∷ (old ++ are.lost)) (IsPermutation-middle old number are.lost))
            (claim_moves plan jobs state seat number are.lost below free));
        none = are.none;
      }

  -- the end of a command takes its rule away
  module _ (it : Running) (verdict : Verdict) (written : List (Names × Stamp)) (here : state.seats seat ≡ Some it) where
    abbrev left : List ℕ
    left = at_work jobs (after plan state (Finish seat verdict written)).seats ++ are.lost

    going_finish : IsPermutation going (it.rule ∷ left)
    going_finish =
        let new = at_work jobs (after plan state (Finish seat verdict written)).seats in
        IsPermutation-trans going (old ++ are.lost) (it.rule ∷ (new ++ are.lost)) are.are
        (IsPermutation-append_left are.lost old (it.rule ∷ new) (finish_takes plan jobs state seat it verdict written below here))

    going_finished : AreGoing jobs (after plan state (Finish seat verdict written)) left
    going_finished = record {
      lost = are.lost;
      are = IsPermutation-refl left;
      none = λ is. are.none (was (sym (ap (λ (s : State). s.stopped) (finished_is plan state seat it verdict written here)) ∙ is));
    }
      where
        was : (ended plan (emptied state seat) it.rule verdict written).stopped ≡ None → state.stopped ≡ None
        was none = by state.stopped refl
          where
            by : (stopped : Option Cause) → state.stopped ≡ stopped → state.stopped ≡ None
            by None is = is
            by (Some cause) is = absurd (none-some cause (sym none ∙ stop_stays plan (emptied state seat) it.rule verdict written cause is))

  -- and a rule that is cut off stays
  going_stop : (cause : Cause) → AreGoing jobs (after plan state (Stop seat cause)) going
  going_stop cause =
      let new = at_work jobs (after plan state (Stop seat cause)).seats in
      let this = running_of (state.seats seat) in
      record {
        lost = this ++ are.lost;
        are =
            IsPermutation-trans going (old ++ are.lost) (new ++ (this ++ are.lost)) are.are
            (IsPermutation-trans (old ++ are.lost) (this ++ (new ++ are.lost)) (new ++ (this ++ are.lost))
            (subst (IsPermutation (old ++ are.lost)) (append_assoc this new are.lost) (IsPermutation-append_left are.lost old (this ++ new) (stop_takes plan jobs state seat cause below)))
            (swap_front this new are.lost));
        none = λ is. absurd (none-some (unwrap_or state.stopped cause) (sym is));
      }

-- ---- how they follow each other
interleaved : (plan : Plan) (jobs : ℕ) (events : List CoreEvent) (state : State) (claimed : List (Option ℕ)) (going : List ℕ) → AreGoing jobs state going → Knows claimed state → All (IsBelow jobs) events → IsRun plan state events
    → Interleave jobs going (steps_of events) (claims events) (numbers (ends_from claimed events))
interleaved plan jobs [] state claimed going are knows below run = tt
interleaved plan jobs (Claim seat number ∷ events) state claimed going are knows below (enabled, run) =
    let event = Claim seat number in
    let here = All-head (IsBelow jobs) event events below in (
      going_few plan jobs state going are seat here enabled.1 enabled.2.going,
      interleaved plan jobs events (after plan state event) (claimed_after claimed event) (number ∷ going) (going_claim plan jobs state going are seat here number enabled.1) (knows_after plan state claimed event enabled knows)
          (All-tail (IsBelow jobs) event events below) run,
    )
interleaved plan jobs (Ask seat text answer ∷ events) state claimed going are knows below (enabled, run) =
    let event = Ask seat text answer in
    let new = after plan state event in
    interleaved plan jobs events new claimed going (going_same jobs state new going (same_running state.seats seat (asked text answer) (λ it. refl) jobs) refl are) (knows_after plan state claimed event enabled knows)
    (All-tail (IsBelow jobs) event events below) run
interleaved plan jobs (Deny seat text verdict ∷ events) state claimed going are knows below (enabled, run) =
    let event = Deny seat text verdict in
    let new = after plan state event in
    interleaved plan jobs events new claimed going (going_same jobs state new going (same_running state.seats seat (refused text verdict) (λ it. refl) jobs) refl are) (knows_after plan state claimed event enabled knows)
    (All-tail (IsBelow jobs) event events below) run
interleaved plan jobs (Finish seat verdict written ∷ events) state claimed going are knows below (enabled, run) =
    let event = Finish seat verdict written in
    let new = after plan state event in
    let it = enabled.0 in
    let runs = enabled.2.here in
    let here = All-head (IsBelow jobs) event events below in
    subst (λ (r : Option ℕ). Interleave jobs going (End ∷ steps_of events) (claims events) (numbers (ends_at r verdict (ends_from claimed events)))) (sym (knows.each seat it runs)) (
      left plan jobs state going are seat here it verdict written runs,
      going_finish plan jobs state going are seat here it verdict written runs,
      interleaved plan jobs events new claimed (left plan jobs state going are seat here it verdict written runs) (going_finished plan jobs state going are seat here it verdict written runs)
          (knows_after plan state claimed event enabled knows) (All-tail (IsBelow jobs) event events below) run,
    )
interleaved plan jobs (Stop seat cause ∷ events) state claimed going are knows below (enabled, run) =
    let event = Stop seat cause in
    interleaved plan jobs events (after plan state event) claimed going (going_stop plan jobs state going are seat (All-head (IsBelow jobs) event events below) cause) (knows_after plan state claimed event enabled knows)
    (All-tail (IsBelow jobs) event events below) run

-- those of a whole run
pub run_interleaves : (plan : Plan) (jobs : ℕ) (files : List (Names × Stamp)) (events : List CoreEvent) → All (IsBelow jobs) events → IsRun plan (opening plan files) events
    → Interleave jobs [] (steps_of events) (claims events) (numbers (ends events))
run_interleaves plan jobs files events below run = interleaved plan jobs events (opening plan files) nothing_claimed [] (going_none plan jobs files) (knows_none plan files) below run

-- ---- under other names
pub interleave_map : {A B : Type 0} (f : A → B) (jobs : ℕ) (steps : List Step) (going begun ended : List A) → Interleave jobs going steps begun ended → Interleave jobs (map f going) steps (map f begun) (map f ended)
interleave_map f jobs [] going [] [] is = tt
interleave_map f jobs [] going [] (one ∷ ended) is = absurd is
interleave_map f jobs [] going (one ∷ begun) ended is = absurd is
interleave_map f jobs (Begin ∷ steps) going [] ended is = absurd is
interleave_map f jobs (Begin ∷ steps) going (one ∷ begun) ended (few, rest) =
    (subst (λ (n : ℕ). n < jobs) (sym (length-map going f)) few, interleave_map f jobs steps (one ∷ going) begun ended rest)
interleave_map f jobs (End ∷ steps) going begun [] is = absurd is
interleave_map f jobs (End ∷ steps) going begun (one ∷ ended) (others, are, rest) =
    (map f others, IsPermutation-map f going (one ∷ others) are, interleave_map f jobs steps others begun ended rest)
