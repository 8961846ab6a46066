-- What one rule of a drain leaves, and what an update that is over came to.
use Rattle.std.proofs.Common.{◌≡◌, ◌≢◌, ◌⊎◌, ℕ, ◌<◌, ◌+◌, ◌-◌, Bool, true, false, List, [], ◌∷◌, ◌++◌, length, Option, None, Some, Result, Ok, Err, refl, sym, ap, ◌∙◌, subst, inl, inr, ⊎_elim, append_assoc, arith}
use Rattle.std.specs.Prelude.{◌==◌, All, IsSome, IsTrue, if◌then◌else◌, unwrap_or, slice_get, take, filter_map, option_map}
use Rattle.std.specs.List.{cons_option}
use Rattle.std.proofs.lemmas.Bool.{false≢true, true≢false, eq-eqb, eqb-true}
use Rattle.std.proofs.lemmas.List.{append-nil, append_cancel_left, length-append}
use Rattle.std.proofs.lemmas.List.Elements.{All-nil, All-cons, All-append, filter_map-append}
use Rattle.std.proofs.lemmas.Option.{none-some, same_Some}
use Rattle.tup_path.specs.Count.{Rose}
use Rattle.tup_path.specs.Name.{Names}
use Rattle.tup_path.specs.Tree.{Tree}
use Rattle.tup_stamp.specs.declared.Stamp.{Stamp}
use Rattle.tup_rule.specs.declared.rule.Rule.{Rule}
use Rattle.tup_site.specs.declared.site.Site.{Ghosts as Site}
use Rattle.tup_runner.specs.declared.runner.Runner.{Ghosts as Runner}
use Rattle.tup_runner.specs.declared.step.Ended.{Ended}
use Rattle.tup_access.specs.declared.verdict.Verdict.{Verdict}
use Rattle.tup_access.specs.declared.verdict.Verdict.TheVariants.{Good, Failed, IllegalRead, IllegalWrite, Unwritten, TooManyReads}
use Rattle.tup_core.specs.declared.event.Cause.{Cause}
use Rattle.tup_core.specs.declared.event.Cause.TheVariants as causes
use Rattle.tup_core.specs.declared.event.CoreEvent.{CoreEvent}
use Rattle.tup_core.specs.declared.event.CoreEvent.TheVariants.{Claim, Ask, Deny, Finish, Stop}
use Rattle.tup_core.specs.declared.plan.Plan.{Plan}
use Rattle.tup_core.specs.declared.running.Running.{Running}
use Rattle.tup_core.specs.Kept.{Kept}
use Rattle.tup_core.specs.Run.{claims, end_of}
use Rattle.tup_core.specs.Sound.{IsAcyclic}
use Rattle.tup_core.specs.Step.{State, after, changed, emptied, ended, finished, is_reached}
use Rattle.tup_core.proofs.Changed.{changed_here}
use Rattle.tup_core.proofs.CleanRuns.{files_clean, succeeds_clean}
use Rattle.tup_core.proofs.NeverStuck.{never_stuck}
use Rattle.tup_core.proofs.Orderly.{IsOrderly, claimed_ended, finished_is, seats_ended}
use Rattle.tup_schedule.specs.Turn.{IsFirstReady}
use Rattle.tup_schedule.specs.Course.{Claims, CourseState, EndsDenied, NoneRuns, Stops}
use Rattle.tup_schedule.specs.declared.claimed.Claimed.{Claimed}
use Rattle.tup_schedule.specs.declared.claimed.Claimed.TheVariants.{Rule as Gives, Wait, Over}
use Rattle.tup_schedule.specs.Room.{unclaimed}
use Rattle.tup_schedule.proofs.Courses.{end_both}
use Rattle.tup_schedule.proofs.Rooms.{unclaimed_fewer}
use Rattle.tup_rule_outputs.specs.Fault.{CountsFaults}
use Rattle.tup_rule_outputs.specs.declared.fault.BoardFault.{BoardFault}
use Rattle.tup_rule_outputs.specs.declared.fault.BoardFault.TheVariants as fault_by
use Rattle.tup_board.specs.declared.answers.Drained.{Drained}
use Rattle.tup_board.specs.declared.answers.Drained.TheVariants.{Done, Left}
use Rattle.tup_board.specs.Board.{BoardState, Opening, course_of, plan_of, seat_of, start, state, with_history}
use Rattle.tup_board.specs.Calls.{BuildsClean, Drains, Finishes, HasFailed, HasRun, HasRunCause, IsOver, RanAll, RunsOne, StartsAlone, TakesFirst, command_of, commands}
use Rattle.tup_board.specs.CameLaws.{claims_both, from_both}
use Rattle.tup_board.specs.Seat.{IsFromSeat, IsLeft, IsSteady, KeepsCount}
use Rattle.tup_board.specs.Sound.{IsSound}
use Rattle.tup_board.proofs.Seated.{orderly}
use Rattle.tup_board.proofs.Seeing.{apart_from, from_one, state_more}

-- what is none isn't there; and a stop for want of memory is none for a runner
never_some : {A : Type 0} (given : Option A) → given ≡ None → IsSome given → ⊥
never_some None none some = false≢true some
never_some (Some value) none some = none-some value (sym none)

memory_or_run : Some causes.Memory ≡ Some causes.Run → ⊥
memory_or_run e = cc

-- ---- the end of a command, and a stop, leave what other seats run, and its own seat runs nothing then
module _ (plan : Plan) (before : State) (seat : ℕ) where
  module _ (running : Running) (given : Verdict) (written : List (Names × Stamp)) (here : before.seats seat ≡ Some running) where
    seats_are : (other : ℕ) → (after plan before (Finish seat given written)).seats other ≡ changed before.seats seat None other
    seats_are other =
        ap (λ (s : State). s.seats other) (finished_is plan before seat running given written here)
        ∙ ap (λ (f : ℕ → Option Running). f other) (seats_ended plan (emptied before seat) running.rule given written)

    pub finish_others : (other : ℕ) → other ≢ seat → (after plan before (Finish seat given written)).seats other ≡ before.seats other
    finish_others other differ = seats_are other ∙ apart_from before.seats seat None other differ

    pub finish_empties : (after plan before (Finish seat given written)).seats seat ≡ None
    finish_empties = seats_are seat ∙ changed_here before.seats seat None

    -- it stops for a bad verdict alone
    bad_stop : (keeps : Bool) (was : Option Cause) → was ≡ None → (if keeps then was else Some (unwrap_or was causes.Bad)) ≢ Some causes.Run
    bad_stop true was none run = none-some causes.Run (sym none ∙ run)
    bad_stop false was none run = absurd (bad_or_run (ap (λ (o : Option Cause). Some (unwrap_or o causes.Bad)) (sym none) ∙ run))
      where
        bad_or_run : Some causes.Bad ≡ Some causes.Run → ⊥
        bad_or_run e = cc

    ended_stops : (verdict : Verdict) → before.stopped ≡ None → (ended plan (emptied before seat) running.rule verdict written).stopped ≢ Some causes.Run
    ended_stops Good none = λ run. none-some causes.Run (sym none ∙ run)
    ended_stops (Failed status) none = bad_stop plan.keep_going before.stopped none
    ended_stops (IllegalRead text) none = bad_stop plan.keep_going before.stopped none
    ended_stops (IllegalWrite text) none = bad_stop plan.keep_going before.stopped none
    ended_stops (Unwritten path) none = bad_stop plan.keep_going before.stopped none
    ended_stops TooManyReads none = bad_stop plan.keep_going before.stopped none

    pub finish_stops : before.stopped ≡ None → (after plan before (Finish seat given written)).stopped ≢ Some causes.Run
    finish_stops none run = ended_stops given none (sym (ap (λ (s : State). s.stopped) (finished_is plan before seat running given written here)) ∙ run)

  pub stop_others : (cause : Cause) (other : ℕ) → other ≢ seat → (after plan before (Stop seat cause)).seats other ≡ before.seats other
  stop_others cause other differ = apart_from before.seats seat None other differ

  pub stop_empties : (cause : Cause) → (after plan before (Stop seat cause)).seats seat ≡ None
  stop_empties cause = changed_here before.seats seat None

  pub stop_stops : (cause : Cause) → before.stopped ≡ None → (after plan before (Stop seat cause)).stopped ≡ Some cause
  stop_stops cause none = ap (λ (o : Option Cause). Some (unwrap_or o cause)) none

-- ---- a seat's command ends, or is stopped
-- a stop where nothing was stopped
pub record IsStoppedFor {S : Type 0} (seat : ℕ) (old new : BoardState S) (cause : Cause) : Type 0 where
  pub from : IsFromSeat seat old new
  pub ends : (state new).seats seat ≡ None
  pub stops : (state new).stopped ≡ Some cause

module _ {S : Type 0} (seat : ℕ) (old new : BoardState S) (same : new.opening ≡ old.opening) where
  -- a stop is the first cause where none was before
  pub stop_is : (cause : Cause) → (state old).stopped ≡ None → new.history ≡ old.history ++ Stop seat cause ∷ [] → (state new).stopped ≡ Some cause
  stop_is cause none adds = ap (λ (s : State). s.stopped) (state_more seat old new (Stop seat cause) same adds) ∙ stop_stops (plan_of old) (state old) seat cause none

  stop_from : (cause : Cause) → new.history ≡ old.history ++ Stop seat cause ∷ [] → IsFromSeat seat old new
  stop_from cause adds = from_one seat old new (Stop seat cause) same adds refl refl (stop_others (plan_of old) (state old) seat cause)

  stop_leaves : (cause : Cause) → new.history ≡ old.history ++ Stop seat cause ∷ [] → (state new).seats seat ≡ None
  stop_leaves cause adds = ap (λ (s : State). s.seats seat) (state_more seat old new (Stop seat cause) same adds) ∙ stop_empties (plan_of old) (state old) seat cause

  stopped_so : (cause : Cause) → cause ≢ causes.Run → new.history ≡ old.history ++ Stop seat cause ∷ [] → IsLeft seat old new
  stopped_so cause other adds = record {
    from = stop_from cause adds;
    ends = stop_leaves cause adds;
    never_run = λ none run. other (same_Some _ _ (sym (stop_is cause none adds) ∙ run));
  }

  pub finished_so : (running : Running) (given : Verdict) (written : List (Names × Stamp)) → (state old).seats seat ≡ Some running → new.history ≡ old.history ++ Finish seat given written ∷ [] → IsLeft seat old new
  finished_so running given written here adds =
      let is = state_more seat old new (Finish seat given written) same adds in record {
        from = from_one seat old new (Finish seat given written) same adds refl refl (finish_others (plan_of old) (state old) seat running given written here);
        ends = ap (λ (s : State). s.seats seat) is ∙ finish_empties (plan_of old) (state old) seat running given written here;
        never_run = λ none run. finish_stops (plan_of old) (state old) seat running given written here none (sym (ap (λ (s : State). s.stopped) is) ∙ run);
      }

  pub left_so : (running : Running) (ended : Ended) (result : Result Verdict BoardFault) → (state old).seats seat ≡ Some running → result ≢ Err fault_by.Memory → Finishes seat ended old result new → IsLeft seat old new
  left_so running ended (Ok verdict) here other fin = finished_so running verdict fin.0 here fin.2
  left_so running ended (Err fault_by.Site) here other fin = stopped_so causes.Site (λ e. cc) fin.0
  left_so running ended (Err fault_by.Full) here other fin = stopped_so causes.Full (λ e. cc) fin.0
  left_so running ended (Err fault_by.Memory) here other fin = absurd (other refl)
  left_so running ended (Err (fault_by.TooLarge bytes)) here other fin = absurd fin

  pub stops_for : (cause : Cause) → (state old).stopped ≡ None → Stops seat cause (course_of old) (course_of new) → IsStoppedFor seat old new cause
  stops_for cause none stops =
      let adds = ap (λ (c : CourseState). c.history) (stops.one (λ it. never_some (state old).stopped none it.1)) in
      record { from = stop_from cause adds; ends = stop_leaves cause adds; stops = stop_is cause none adds }

-- ---- the end of a command that was denied an ask
pub denied_left : {S : Type 0} (seat : ℕ) (old new : BoardState S) → EndsDenied seat (course_of old) (course_of new) → new ≡ with_history old new.history → IsLeft seat old new
denied_left seat old new ends rest =
    finished_so seat old new (ap (λ (b : BoardState _). b.opening) rest) ends.was.it.running ends.was.verdict [] ends.was.it.runs.here (ap (λ (c : CourseState). c.history) ends.adds)

-- ---- a stop of a seat's command
pub stop_left : {S : Type 0} (seat : ℕ) (old new : BoardState S) (cause : Cause) → (state old).stopped ≡ None → Stops seat cause (course_of old) (course_of new) → new ≡ with_history old new.history → IsStoppedFor seat old new cause
stop_left seat old new cause none stops rest = stops_for seat old new (ap (λ (b : BoardState _). b.opening) rest) cause none stops

-- the end of a command for which there was no memory, and the stop then
pub memory_left : {S : Type 0} (seat : ℕ) (old mid new : BoardState S) → (state old).stopped ≡ None → mid.opening ≡ old.opening → mid.history ≡ old.history → Stops seat causes.Memory (course_of mid) (course_of new)
    → new ≡ with_history mid new.history → IsLeft seat old new
memory_left seat old mid new none same history stops rest = record {
  from = from_both seat old mid new nothing stopped.from;
  ends = stopped.ends;
  never_run = λ going run. memory_or_run (sym stopped.stops ∙ run);
}
  where
    same_state : state mid ≡ state old
    same_state = ap (λ (o : Opening _). state (record mid { opening = o })) same ∙ ap (λ (h : List CoreEvent). state (record old { history = h })) history

    stopped : IsStoppedFor seat mid new causes.Memory
    stopped = stop_left seat mid new causes.Memory (ap (λ (s : State). s.stopped) same_state ∙ none) stops rest

    nothing : IsFromSeat seat old mid
    nothing = record {
      opening = same;
      events = [];
      adds = history ∙ sym (append-nil old.history);
      own = All-nil _;
      none_claimed = refl;
      others = λ other differ. ap (λ (s : State). s.seats other) same_state;
    }

-- the end of a command otherwise
pub end_left : {S : Type 0} (seat : ℕ) (old new : BoardState S) (running : Running) (ended : Ended) (result : Result Verdict BoardFault) → (state old).seats seat ≡ Some running → new.opening ≡ old.opening
    → (result ≡ Err fault_by.Memory → ⊥) → Finishes seat ended old result new → IsLeft seat old new
end_left seat old new running ended result here same other fin = left_so seat old new same running ended result here other fin

pub memory_kept : {S : Type 0} (seat : ℕ) (old new : BoardState S) (ended : Ended) (result : Result Verdict BoardFault) → result ≡ Err fault_by.Memory → Finishes seat ended old result new → new.history ≡ old.history
memory_kept seat old new ended result is fin = subst (λ (r : Result Verdict BoardFault). Finishes seat ended old r new) is fin

-- ---- what became of the site's count
module _ {S : Type 0} (site : Site S) where
  -- a call that leaves the site
  pub steady_rest : (old new : BoardState S) → new ≡ with_history old new.history → IsSteady site old new
  steady_rest old new rest none other = ap (λ (b : BoardState S). site.faults b.site) rest

  pub steady_both : (old mid new : BoardState S) → IsSteady site old mid → (state mid).stopped ≡ None → IsSteady site mid new → IsSteady site old new
  steady_both old mid new one going two none other = two going other ∙ one none (λ is. none-some causes.Site (sym going ∙ is))

  -- the end of a command
  pub steady_end : (seat : ℕ) (old new : BoardState S) (ended : Ended) (result : Result Verdict BoardFault) → new.opening ≡ old.opening → Finishes seat ended old result new
      → CountsFaults (site.faults old.site) (site.faults new.site) old.lost result → IsSteady site old new
  steady_end seat old new ended result same fin counts none other =
      counts.steady (λ is. other (stop_is seat old new same causes.Site none (subst (λ (r : Result Verdict BoardFault). Finishes seat ended old r new) is fin).0))

  -- it had no memory, and was stopped
  pub steady_memory : (old mid new : BoardState S) (result : Result Verdict BoardFault) → result ≡ Err fault_by.Memory → CountsFaults (site.faults old.site) (site.faults mid.site) old.lost result
      → new ≡ with_history mid new.history → IsSteady site old new
  steady_memory old mid new result is counts rest none other = ap (λ (b : BoardState S). site.faults b.site) rest ∙ counts.steady (λ failed. let clash = sym is ∙ failed in cc)

  -- an update under way
  pub stays_steady : (old now mid new : BoardState S) (number : ℕ) (result : Claimed) → KeepsCount site old now → Claims 0 (course_of now) result (course_of mid) → result ≡ Gives number → mid ≡ with_history now mid.history
      → StartsAlone mid number → IsSteady site mid new → KeepsCount site old new
  stays_steady old now mid new number result stays claimed is rest starts steady other =
      let gives = subst (λ (r : Claimed). Claims 0 (course_of now) r (course_of mid)) is claimed in
      steady starts.going other ∙ ap (λ (b : BoardState S). site.faults b.site) rest ∙ stays (λ failed. none-some causes.Site (sym gives.0.ready.going ∙ failed))

-- ---- what a command was run to, by the runner's count
pub never_failed : (was now : ℕ) (stopped : Option Cause) → now ≡ was → stopped ≢ Some causes.Run → HasFailed was now stopped
never_failed was now stopped same never = record { run = λ is. absurd (never is); steady = λ _. same }

pub failed_so : (was now : ℕ) (stopped : Option Cause) → Rose was now → stopped ≡ Some causes.Run → HasFailed was now stopped
failed_so was now stopped rose is = record { run = λ _. rose; steady = λ other. absurd (other is) }

pub for_memory : (was now : ℕ) (stopped : Option Cause) → now ≡ was → stopped ≡ Some causes.Memory → HasFailed was now stopped
for_memory was now stopped same is = never_failed was now stopped same (λ run. memory_or_run (sym is ∙ run))

-- ---- a command that seat 0 ran alone was run or left
pub ran_one : {S : Type 0} (old new : BoardState S) (number : ℕ) → StartsAlone old number → IsFromSeat 0 old new → (state new).seats 0 ≡ None → RunsOne old new
ran_one old new number starts from ends = record {
  opening = from.opening;
  events = from.events;
  adds = from.adds;
  own = from.own;
  none_claimed = from.none_claimed;
  none_runs = λ seat. by seat (seat == 0) refl;
}
  where
    by : (seat : ℕ) (is : Bool) → (seat == 0) ≡ is → (state new).seats seat ≡ None
    by seat true same = ap (λ (n : ℕ). (state new).seats n) (eqb-true seat 0 same) ∙ ends
    by seat false other = from.others seat (λ e. true≢false (sym (eq-eqb seat 0 e) ∙ other)) ∙ starts.alone seat (λ e. true≢false (sym (eq-eqb seat 0 e) ∙ other))

module _ {S : Type 0} (old mid new : BoardState S) (number : ℕ) (starts : StartsAlone old number) (from : IsFromSeat 0 old mid) where
  pub ran_and_left : IsLeft 0 mid new → RunsOne old new
  ran_and_left left = ran_one old new number starts (from_both 0 old mid new from left.from) left.ends

  pub ran_and_stopped : (cause : Cause) → IsStoppedFor 0 mid new cause → RunsOne old new
  ran_and_stopped cause stopped = ran_one old new number starts (from_both 0 old mid new from stopped.from) stopped.ends

-- ---- what events leave in which none is claimed
claimed_none : (plan : Plan) (events : List CoreEvent) (state : State) → claims events ≡ [] → (end_of plan state events).claimed ≡ state.claimed
claimed_none plan [] state none = refl
claimed_none plan (Claim seat rule ∷ events) state none = cc
claimed_none plan (Ask seat text answer ∷ events) state none = claimed_none plan events (after plan state (Ask seat text answer)) none
claimed_none plan (Deny seat text verdict ∷ events) state none = claimed_none plan events (after plan state (Deny seat text verdict)) none
claimed_none plan (Finish seat given written ∷ events) state none = claimed_none plan events (after plan state (Finish seat given written)) none ∙ by (state.seats seat)
  where
    by : (runs : Option Running) → (finished plan state seat runs given written).claimed ≡ state.claimed
    by None = refl
    by (Some running) = claimed_ended plan (emptied state seat) running.rule given written
claimed_none plan (Stop seat cause ∷ events) state none = claimed_none plan events (after plan state (Stop seat cause)) none

ends_on : (plan : Plan) (state : State) (some more : List CoreEvent) → end_of plan state (some ++ more) ≡ end_of plan (end_of plan state some) more
ends_on plan state [] more = refl
ends_on plan state (event ∷ some) more = ends_on plan (after plan state event) some more

-- how many rules are still to be claimed
abbrev pub left_to_claim : {S : Type 0} → BoardState S → ℕ
left_to_claim board = unclaimed (state board).claimed (plan_of board).reach

-- ---- a claim by seat 0, while none runs, and what comes of it
module _ {S : Type 0} (old mid new : BoardState S) (number : ℕ) (none : NoneRuns (course_of old)) (first : IsFirstReady (plan_of old) (state old) number)
    (same : mid.opening ≡ old.opening) (adds : mid.history ≡ old.history ++ Claim 0 number ∷ []) where
  claimed_is : state mid ≡ after (plan_of old) (state old) (Claim 0 number)
  claimed_is = state_more 0 old mid (Claim 0 number) same adds

  pub starts_alone : StartsAlone mid number
  starts_alone = record {
    rule = first.ready.clear.0;
    placed = ap (λ (o : Opening S). slice_get o.plan.rules number) same ∙ first.ready.clear.1;
    here = ap (λ (s : State). s.seats 0) claimed_is ∙ changed_here (state old).seats 0 (Some (record { rule = number; asks = []; denied = None }));
    alone = λ other differ.
        ap (λ (s : State). s.seats other) claimed_is ∙ apart_from (state old).seats 0 (Some (record { rule = number; asks = []; denied = None })) other differ ∙ none other;
    going = ap (λ (s : State). s.stopped) claimed_is ∙ first.ready.going;
  }

  module _ (one : RunsOne mid new) where
    claimed_then : (state new).claimed ≡ changed (state old).claimed number true
    claimed_then =
        ap (λ (o : Opening S). (state (record new { opening = o })).claimed) one.opening ∙ ap (λ (h : List CoreEvent). (state (record mid { history = h })).claimed) one.adds
        ∙ ap (λ (s : State). s.claimed) (ends_on (plan_of mid) (start mid) mid.history one.events) ∙ claimed_none (plan_of mid) one.events (state mid) one.none_claimed ∙ ap (λ (s : State). s.claimed) claimed_is

    pub fewer_left : is_reached (plan_of old) number ≡ true → left_to_claim new < left_to_claim old
    fewer_left reached =
        let fewer = unclaimed_fewer (state old).claimed number (plan_of old).reach reached first.ready.unclaimed in
        let is : left_to_claim new ≡ unclaimed (changed (state old).claimed number true) (plan_of old).reach =
        ap (λ (o : Opening S). unclaimed (state new).claimed o.plan.reach) (one.opening ∙ same) ∙ ap (λ (c : ℕ → Bool). unclaimed c (plan_of old).reach) claimed_then in
        omega (arith, fewer, is)

-- ---- the order of claims
takes_both : (plan : Plan) (before more : List CoreEvent) (at : State) → TakesFirst plan at before → TakesFirst plan (end_of plan at before) more → TakesFirst plan at (before ++ more)
takes_both plan [] more at first last = last
takes_both plan (Claim seat rule ∷ before) more at (ready, first) last = (ready, takes_both plan before more (after plan at (Claim seat rule)) first last)
takes_both plan (Ask seat text answer ∷ before) more at first last = takes_both plan before more (after plan at (Ask seat text answer)) first last
takes_both plan (Deny seat text verdict ∷ before) more at first last = takes_both plan before more (after plan at (Deny seat text verdict)) first last
takes_both plan (Finish seat verdict files ∷ before) more at first last = takes_both plan before more (after plan at (Finish seat verdict files)) first last
takes_both plan (Stop seat cause ∷ before) more at first last = takes_both plan before more (after plan at (Stop seat cause)) first last

takes_none : (plan : Plan) (events : List CoreEvent) (at : State) → claims events ≡ [] → TakesFirst plan at events
takes_none plan [] at none = tt
takes_none plan (Claim seat rule ∷ events) at none = cc
takes_none plan (Ask seat text answer ∷ events) at none = takes_none plan events (after plan at (Ask seat text answer)) none
takes_none plan (Deny seat text verdict ∷ events) at none = takes_none plan events (after plan at (Deny seat text verdict)) none
takes_none plan (Finish seat verdict files ∷ events) at none = takes_none plan events (after plan at (Finish seat verdict files)) none
takes_none plan (Stop seat cause ∷ events) at none = takes_none plan events (after plan at (Stop seat cause)) none

-- ---- the commands of the rules that were claimed
pub commands_more : (plan : Plan) (events more : List CoreEvent) (seat number : ℕ) (rule : Rule) → slice_get plan.rules number ≡ Some rule → claims more ≡ []
    → commands plan (events ++ Claim seat number ∷ more) ≡ commands plan events ++ command_of rule ∷ []
commands_more plan events more seat number rule here none =
    ap (filter_map command) (claims_both events (Claim seat number ∷ more) ∙ ap (λ (rest : List ℕ). claims events ++ number ∷ rest) none)
    ∙ filter_map-append command (claims events) (number ∷ []) ∙ ap (λ (o : Option (Names × List ℕ)). filter_map command (claims events) ++ cons_option o []) (ap (option_map command_of) here)
  where
    command : ℕ → Option (Names × List ℕ)
    command n = option_map command_of (slice_get plan.rules n)

take_front : {A : Type 0} (xs : List A) (x : A) → take (length xs) (xs ++ x ∷ []) ≡ xs
take_front [] x = refl
take_front (y ∷ xs) x = ap (λ (l : List _). y ∷ l) (take_front xs x)

pub all_but_last : {A : Type 0} (xs : List A) (x : A) → xs ≡ take (length (xs ++ x ∷ []) - 1) (xs ++ x ∷ [])
all_but_last xs x = sym (ap (λ (n : ℕ). take n (xs ++ x ∷ [])) (one_less (length-append xs (x ∷ []))) ∙ take_front xs x)
  where
    one_less : {n m : ℕ} → n ≡ m + 1 → n - 1 ≡ m
    one_less is = omega (arith, is)

-- ---- an update under way: what it has done since
abbrev Ran : Plan → List CoreEvent → List (Names × List ℕ) → List (Names × List ℕ) → Option Cause → Type 0
Ran plan events was ran stopped =
    (ran ≡ was ++ commands plan events) ⊎ ((stopped ≡ Some causes.Memory) × (ran ≡ was ++ take (length (commands plan events) - 1) (commands plan events)))

pub record HasDrained {S : Type 0} (tells_ran : Bool) (old now : BoardState S) (was ran : List (Names × List ℕ)) (before faults : ℕ) : Type 0 where
  pub opening : now.opening ≡ old.opening
  pub events : List CoreEvent
  pub adds : now.history ≡ old.history ++ events
  pub own : All (λ event. seat_of event ≡ 0) events
  pub order : TakesFirst (plan_of old) (state old) events
  pub none_runs : NoneRuns (course_of now)
  pub ran_all : IsTrue tells_ran → Ran (plan_of old) events was ran (state now).stopped
  pub run : (state now).stopped ≡ Some causes.Run → ((state old).stopped ≡ Some causes.Run) ⊎ Rose before faults
  pub steady : (state now).stopped ≢ Some causes.Run → faults ≡ before

pub drained_none : {S : Type 0} (tells_ran : Bool) (old : BoardState S) (was : List (Names × List ℕ)) (before : ℕ) → NoneRuns (course_of old) → HasDrained tells_ran old old was was before before
drained_none tells_ran old was before none = record {
  opening = refl;
  events = [];
  adds = sym (append-nil old.history);
  own = All-nil _;
  order = tt;
  none_runs = none;
  ran_all = λ tells. inl (sym (append-nil was));
  run = λ is. inl is;
  steady = λ _. refl;
}

module _ {S : Type 0} (tells_ran : Bool) (old now mid new : BoardState S) (was ran done : List (Names × List ℕ)) (before faults last : ℕ) (has : HasDrained tells_ran old now was ran before faults)
    (number : ℕ) (first : IsFirstReady (plan_of now) (state now) number) (same : mid.opening ≡ now.opening) (adds : mid.history ≡ now.history ++ Claim 0 number ∷ [])
    (one : RunsOne mid new) (did : IsTrue tells_ran → (it : Rule) → slice_get (plan_of mid).rules number ≡ Some it → HasRun (command_of it) ran done (state new).stopped)
    (failed : HasFailed faults last (state new).stopped) where
  abbrev rule : Rule
  rule = first.ready.clear.0

  plan_is : plan_of now ≡ plan_of old
  plan_is = ap (λ (o : Opening S). o.plan) has.opening

  abbrev more : List CoreEvent
  more = has.events ++ Claim 0 number ∷ one.events

  steady_now : faults ≡ before
  steady_now = has.steady (λ run. none-some causes.Run (sym first.ready.going ∙ run))

  commands_are : commands (plan_of old) more ≡ commands (plan_of old) has.events ++ command_of rule ∷ []
  commands_are = commands_more (plan_of old) has.events one.events 0 number rule (ap (λ (p : Plan). slice_get p.rules number) (sym plan_is) ∙ first.ready.clear.1) one.none_claimed

  ran_before : IsTrue tells_ran → ran ≡ was ++ commands (plan_of old) has.events
  ran_before tells = ⊎_elim (λ all. all) (λ stopped. absurd (none-some causes.Memory (sym first.ready.going ∙ stopped.0))) (has.ran_all tells)

  ran_then : IsTrue tells_ran → Ran (plan_of old) more was done (state new).stopped
  ran_then tells =
      ⊎_elim
      (λ all. inl (all ∙ ap (λ (l : List (Names × List ℕ)). l ++ command_of rule ∷ []) (ran_before tells) ∙ append_assoc was (commands (plan_of old) has.events) (command_of rule ∷ [])
      ∙ ap (λ (l : List (Names × List ℕ)). was ++ l) (sym commands_are)))
      (λ none. inr (
        none.1,
        none.0 ∙ ran_before tells ∙ ap (λ (l : List (Names × List ℕ)). was ++ l) (all_but_last (commands (plan_of old) has.events) (command_of rule)
            ∙ ap (λ (l : List (Names × List ℕ)). take (length l - 1) l) (sym commands_are)),
      ))
      (did tells rule (ap (λ (o : Opening S). slice_get o.plan.rules number) same ∙ first.ready.clear.1))

  state_now : state now ≡ end_of (plan_of old) (state old) has.events
  state_now =
      ap (λ (o : Opening S). state (record now { opening = o })) has.opening ∙ ap (λ (h : List CoreEvent). state (record old { history = h })) has.adds
      ∙ end_both (plan_of old) old.history has.events (start old)

  first_there : IsFirstReady (plan_of old) (end_of (plan_of old) (state old) has.events) number
  first_there = subst (λ (s : State). IsFirstReady (plan_of old) s number) state_now (subst (λ (p : Plan). IsFirstReady p (state now) number) plan_is first)

  pub drained_more : HasDrained tells_ran old new was done before last
  drained_more = record {
    opening = one.opening ∙ same ∙ has.opening;
    events = more;
    adds = one.adds ∙ ap (λ (h : List CoreEvent). h ++ one.events) (adds ∙ ap (λ (h : List CoreEvent). h ++ Claim 0 number ∷ []) has.adds)
        ∙ append_assoc (old.history ++ has.events) (Claim 0 number ∷ []) one.events ∙ append_assoc old.history has.events (Claim 0 number ∷ one.events);
    own = All-append (λ event. seat_of event ≡ 0) has.events (Claim 0 number ∷ one.events) has.own (All-cons (λ event. seat_of event ≡ 0) (Claim 0 number) one.events refl one.own);
    order = takes_both (plan_of old) has.events (Claim 0 number ∷ one.events) (state old) has.order
        (first_there, takes_none (plan_of old) one.events (after (plan_of old) (end_of (plan_of old) (state old) has.events) (Claim 0 number)) one.none_claimed);
    none_runs = one.none_runs;
    ran_all = ran_then;
    run = λ is. inr (subst (λ (n : ℕ). Rose n last) steady_now (failed.run is));
    steady = λ other. failed.steady other ∙ steady_now;
  }

-- ---- a claim by seat 0 of an update under way
module _ {S R : Type 0} (site : Site S) (runner : Runner R) (tells_ran : Bool) (old now mid : BoardState S) (was ran : List (Names × List ℕ)) (before faults : ℕ) (has : HasDrained tells_ran old now was ran before faults)
    (result : Claimed) (claimed : Claims 0 (course_of now) result (course_of mid)) (rest : mid ≡ with_history now mid.history) where
  same_opening : mid.opening ≡ now.opening
  same_opening = ap (λ (b : BoardState S). b.opening) rest

  pub plan_there : plan_of mid ≡ plan_of old
  plan_there = ap (λ (o : Opening S). o.plan) (same_opening ∙ has.opening)

  -- it gives a rule
  module _ (number : ℕ) (is : result ≡ Gives number) where
    gives : Claims 0 (course_of now) (Gives number) (course_of mid)
    gives = subst (λ (r : Claimed). Claims 0 (course_of now) r (course_of mid)) is claimed

    adds_claim : mid.history ≡ now.history ++ Claim 0 number ∷ []
    adds_claim = ap (λ (c : CourseState). c.history) gives.1

    pub starts_there : StartsAlone mid number
    starts_there = starts_alone now mid mid number has.none_runs gives.0 same_opening adds_claim

    pub goes_further : (new : BoardState S) (done : List (Names × List ℕ)) (last : ℕ) → RunsOne mid new
        → (IsTrue tells_ran → (it : Rule) → slice_get (plan_of mid).rules number ≡ Some it → HasRun (command_of it) ran done (state new).stopped) → HasFailed faults last (state new).stopped
        → HasDrained tells_ran old new was done before last
    goes_further new done last one did failed = drained_more tells_ran old now mid new was ran done before faults last has number gives.0 same_opening adds_claim one did failed

    pub is_smaller : IsSound site runner mid → (new : BoardState S) → RunsOne mid new → left_to_claim new < left_to_claim now
    is_smaller sound new one = fewer_left now mid new number has.none_runs gives.0 same_opening adds_claim one (ap (λ (o : Opening S). is_reached o.plan number) (sym same_opening) ∙ reached)
      where
        in_order : IsOrderly (plan_of mid) (state mid)
        in_order = orderly (plan_of mid) (course_of mid).files mid.history sound.run

        reached : is_reached (plan_of mid) number ≡ true
        reached = in_order.reached number (in_order.pending 0 (record { rule = number; asks = []; denied = None }) starts_there.here)

  -- on a board that was over there is none to give
  pub gives_none : (number : ℕ) → result ≡ Gives number → now ≡ old → IsOver old → ⊥
  gives_none number is same over =
      let ready = (subst (λ (r : Claimed). Claims 0 (course_of now) r (course_of mid)) is claimed).0.ready in
      ⊎_elim (λ some. never_some (state now).stopped ready.going some) (λ none. none number ready) (subst (λ (b : BoardState S). IsOver b) (sym same) over).1

  -- none is ready while none runs: nothing is to wait for
  pub never_waits : result ≡ Wait → ⊥
  never_waits is = (subst (λ (r : Claimed). Claims 0 (course_of now) r (course_of mid)) is claimed).2 has.none_runs

  -- it is over
  module _ (is : result ≡ Over) where
    over_is : Claims 0 (course_of now) Over (course_of mid)
    over_is = subst (λ (r : Claimed). Claims 0 (course_of now) r (course_of mid)) is claimed

    nothing_more : mid ≡ now
    nothing_more = rest ∙ ap (λ (c : CourseState). with_history now c.history) over_is.1

    pub over_there : IsOver mid
    over_there = subst (λ (b : BoardState S). IsOver b) (sym nothing_more) (has.none_runs, ⊎_elim inl (λ none. inr none.0) over_is.0)

    pub drained_there : HasDrained tells_ran old mid was ran before faults
    drained_there = subst (λ (b : BoardState S). HasDrained tells_ran old b was ran before faults) (sym nothing_more) has

    pub steady_there : KeepsCount site old now → KeepsCount site old mid
    steady_there stays = subst (λ (b : BoardState S). KeepsCount site old b) (sym nothing_more) stays

    pub idle_there : {A : Type 0} (first last : A) → (IsOver old → (now ≡ old) × (last ≡ first)) → IsOver old → (mid ≡ old) × (last ≡ first)
    idle_there first last idle over = (nothing_more ∙ (idle over).0, (idle over).1)

-- ---- what happened is what was added
pub order_as : {S : Type 0} (tells_ran : Bool) (old now : BoardState S) (was ran : List (Names × List ℕ)) (before faults : ℕ) → HasDrained tells_ran old now was ran before faults
    → (events : List CoreEvent) → now.history ≡ old.history ++ events → TakesFirst (plan_of old) (state old) events
order_as tells_ran old now was ran before faults has events adds =
    subst (TakesFirst (plan_of old) (state old)) (append_cancel_left old.history has.events events (sym has.adds ∙ adds)) has.order

-- ---- an update that is over
module _ {S : Type 0} (tells_ran : Bool) (old now : BoardState S) (was ran : List (Names × List ℕ)) (before faults : ℕ) (has : HasDrained tells_ran old now was ran before faults) (result : Drained) (drains : Drains (state now) result) where
  -- it is left for a cause just where it was stopped for that, unless a verdict is bad
  left_by : (cause : Cause) → (state now).stopped ≡ Some cause → result ≡ Left cause
  left_by cause is = by result drains
    where
      by : (r : Drained) → Drains (state now) r → r ≡ Left cause
      by Done drained = absurd (none-some cause (sym drained.0 ∙ is))
      by (Left other) drained =
          ⊎_elim (λ stopped. ap Left (same_Some _ _ (sym stopped ∙ is))) (λ bad. absurd (none-some cause (sym bad.0 ∙ is))) drained

  stopped_for : (cause : Cause) → cause ≢ causes.Bad → result ≡ Left cause → (state now).stopped ≡ Some cause
  stopped_for cause other is =
      ⊎_elim (λ stopped. stopped) (λ bad. absurd (other bad.1)) (subst (Drains (state now)) is drains)

  pub run_cause : HasRunCause (state old).stopped before faults result
  run_cause = record {
    run = λ is. has.run (stopped_for causes.Run (λ e. cc) is);
    steady = λ other. has.steady (λ is. other (left_by causes.Run is));
  }

  pub ran_as : (events : List CoreEvent) → now.history ≡ old.history ++ events → IsTrue tells_ran → RanAll (plan_of old) events was ran result
  ran_as events adds tells = subst (λ (e : List CoreEvent). RanAll (plan_of old) e was ran result) (append_cancel_left old.history has.events events (sym has.adds ∙ adds)) (by result refl)
    where
      all_but : result ≢ Left causes.Memory → ran ≡ was ++ commands (plan_of old) has.events
      all_but other = ⊎_elim (λ all. all) (λ stopped. absurd (other (left_by causes.Memory stopped.0))) (has.ran_all tells)

      by : (r : Drained) → result ≡ r → RanAll (plan_of old) has.events was ran r
      by Done is = all_but (λ e. let clash = sym is ∙ e in cc)
      by (Left causes.Memory) is = ⊎_elim inl (λ stopped. inr stopped.1) (has.ran_all tells)
      by (Left causes.Bad) is = all_but (λ e. let clash = sym is ∙ e in cc)
      by (Left causes.Site) is = all_but (λ e. let clash = sym is ∙ e in cc)
      by (Left (causes.TooLarge bytes)) is = all_but (λ e. let clash = sym is ∙ e in cc)
      by (Left causes.Full) is = all_but (λ e. let clash = sym is ∙ e in cc)
      by (Left causes.Run) is = all_but (λ e. let clash = sym is ∙ e in cc)

-- ---- where it is done
module _ {S R : Type 0} (site : Site S) (runner : Runner R) (now : BoardState S) (sound : IsSound site runner now) (over : IsOver now) (drains : Drains (state now) Done) where
  -- no rule is pending
  pub none_pending : IsAcyclic (plan_of now).rules → (number : ℕ) → (state now).pending number ≡ false
  none_pending acyclic number = by ((state now).pending number) refl
    where
      by : (is : Bool) → (state now).pending number ≡ is → is ≡ false
      by false is = refl
      by true is =
          absurd (never_stuck (plan_of now) (course_of now).files now.history acyclic sound.opening.plan.in_range sound.run
          (record {
            pending = (number, is);
            quiet = record {
              none_ready = λ at ready. ⊎_elim (λ some. never_some (state now).stopped drains.0 some) (λ none. none at ready) over.1;
              none_runs = over.0;
              going = drains.0;
            };
            none_bad = drains.1;
          }))

  -- and where the opening was planned the files are those of the clean build
  pub builds_clean : IsTrue site.tells → IsTrue runner.tells → (kept : Kept) (tree : Tree) → BuildsClean site runner now kept tree
  builds_clean told tells kept tree planned =
      let acyclic = subst IsAcyclic planned.rules planned.is_kept.acyclic in
      let done = none_pending acyclic in
      let honest = sound.honest told tells in (
        succeeds_clean runner.next (site.known now.site) kept tree (plan_of now) (course_of now).files planned now.history sound.run honest done,
        λ path. sound.files told path (λ pending. true≢false (sym pending.1 ∙ done pending.0))
            ∙ files_clean runner.next (site.known now.site) kept tree (plan_of now) (course_of now).files planned now.history sound.run honest done path,
      )
