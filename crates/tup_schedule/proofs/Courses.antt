-- A course goes on: what is kept of it after each event.
use Rattle.std.proofs.Common.{◌≡◌, ℕ, ◌+◌, ◌<◌, ◌≤◌, ◌⊎◌, List, [], ◌∷◌, ◌++◌, length, Option, None, Some, refl, sym, ap, ◌∙◌, subst, inl, inr, arith}
use Rattle.std.specs.Prelude.{Result, Ok, Err, slice_set}
use Rattle.std.specs.FinMap as finite
use Rattle.std.specs.Option.{option_map}
use Rattle.std.proofs.lemmas.List.{length_push}
use Rattle.tup_access.specs.declared.verdict.Verdict.{Verdict}
use Rattle.tup_access.specs.declared.verdict.Verdict.TheVariants.{Good, Failed, IllegalRead, IllegalWrite, Unwritten, TooManyReads}
use Rattle.tup_path.specs.Name.{Names}
use Rattle.tup_stamp.specs.declared.Stamp.{Stamp}
use Rattle.tup_core.specs.declared.event.CoreEvent.{CoreEvent}
use Rattle.tup_core.specs.declared.event.CoreEvent.TheVariants.{Finish}
use Rattle.tup_core.specs.declared.fault.CoreFault.{CoreFault}
use Rattle.tup_core.specs.declared.fault.CoreFault.TheVariants.{NotEnabled, Memory}
use Rattle.tup_core.specs.declared.running.Running.{Running}
use Rattle.tup_core.specs.declared.machine.Core.{Core}
use Rattle.tup_core.specs.declared.plan.Plan.{Plan}
use Rattle.tup_schedule.specs.declared.turn.Turn.{Turn}
use Rattle.tup_core.specs.Machine.{entry, state_of, IsCore, Answers, TakesMemory}
use Rattle.tup_core.specs.Run.{IsRun, end_of}
use Rattle.tup_core.specs.Step.{State, IsEnabled, FitsEnd, after, changed, emptied}
use Rattle.tup_core.proofs.Changed.{changed_cases}
use Rattle.tup_core.proofs.ItemLaws.{items_set}
use Rattle.tup_core.proofs.Orderly.{finished_is, seats_ended}
use Rattle.tup_schedule.specs.Turn.{IsTurn}
use Rattle.tup_schedule.specs.Course.{CourseState, IsCourse, WasDenied, first, now, with_events, end_at}
use Rattle.tup_schedule.specs.Room.{to_come}

-- the end of a run with one more event
pub end_more : (plan : Plan) (state : State) (events : List CoreEvent) (event : CoreEvent) → end_of plan state (events ++ event ∷ []) ≡ after plan (end_of plan state events) event
end_more plan state [] event = refl
end_more plan state (one ∷ events) event = end_more plan (after plan state one) events event

pub end_both : (plan : Plan) (before more : List CoreEvent) (at : State) → end_of plan at (before ++ more) ≡ end_of plan (end_of plan at before) more
end_both plan [] more at = refl
end_both plan (event ∷ before) more at = end_both plan before more (after plan at event)

pub run_more : (plan : Plan) (state : State) (events : List CoreEvent) (event : CoreEvent) → IsRun plan state events → IsEnabled plan (end_of plan state events) event → IsRun plan state (events ++ event ∷ [])
run_more plan state [] event run enabled = (enabled, tt)
run_more plan state (one ∷ events) event run enabled = (run.0, run_more plan (after plan state one) events event run.1 enabled)

-- what is kept once one more event happened
pub course_more : (course : CourseState) (event : CoreEvent) (core : Core) (turn : Turn) (ends : List (Option CoreEvent)) (capacity : ℕ)
    → IsRun course.plan (first course) course.history → IsEnabled course.plan (now course) event
    → IsCore course.plan core → finite.entries core.files.first.value ≡ course.files → state_of core ≡ after course.plan (now course) event → IsTurn course.plan (after course.plan (now course) event) turn
    → length ends ≡ 16 → ((seat : ℕ) → seat < 16 → entry ends seat ≡ end_at seat ((after course.plan (now course) event).seats seat))
    → length course.history + 1 + to_come course.plan (after course.plan (now course) event) ≤ capacity
    → IsCourse (with_events course (event ∷ [])) core turn ends capacity
course_more course event core turn ends capacity run enabled is by_files state turns many each room = record {
  is_core = is;
  by_files = by_files;
  at_end = state ∙ sym end;
  is_turn = subst (λ (s : State). IsTurn course.plan s turn) (sym end) turns;
  run = run_more course.plan (first course) course.history event run enabled;
  many = many;
  at_seats = λ seat within. each seat within ∙ ap (λ (s : State). end_at seat (s.seats seat)) (sym end);
  room =
      let longer = length_push course.history event in
      let same = ap (to_come course.plan) end in
      omega (arith, room, longer, same);
}
  where
    end : now (with_events course (event ∷ [])) ≡ after course.plan (now course) event
    end = end_more course.plan (first course) course.history event

-- ---- a core takes what it may, where it wants no memory
pub taken : (plan : Plan) (old new : Core) (event : CoreEvent) (result : Result (Unit {0}) CoreFault) → Answers plan old event result new → IsEnabled plan (state_of old) event → (TakesMemory (state_of old) event → ⊥)
    → state_of new ≡ after plan (state_of old) event
taken plan old new event (Ok done) answers enabled free = (answers.ok done refl).1
taken plan old new event (Err NotEnabled) answers enabled free = absurd (answers.not_enabled refl enabled)
taken plan old new event (Err Memory) answers enabled free = absurd (free (answers.memory refl))

-- ---- how commands are to end

-- where one seat runs something else, and its end is told anew
pub ends_changed : (ends : List (Option CoreEvent)) (seats : ℕ → Option Running) (seat : ℕ) (end : Option CoreEvent) (what : Option Running) → seat < length ends
    → ((other : ℕ) → other < 16 → entry ends other ≡ end_at other (seats other)) → end ≡ end_at seat what
    → (other : ℕ) → other < 16 → entry (slice_set ends seat end) other ≡ end_at other (changed seats seat what other)
ends_changed ends seats seat end what within were told other below =
    (λ i. items_set ends seat end None within i other) ∙ each (changed_cases (entry ends) seat end other) (changed_cases seats seat what other)
  where
    each : ((other ≡ seat) × (changed (entry ends) seat end other ≡ end)) ⊎ ((other ≡ seat → ⊥) × (changed (entry ends) seat end other ≡ entry ends other))
        → ((other ≡ seat) × (changed seats seat what other ≡ what)) ⊎ ((other ≡ seat → ⊥) × (changed seats seat what other ≡ seats other))
        → changed (entry ends) seat end other ≡ end_at other (changed seats seat what other)
    each (inl here) (inl now_here) = here.1 ∙ told ∙ ap (λ (n : ℕ). end_at n what) (sym here.0) ∙ ap (end_at other) (sym now_here.1)
    each (inl here) (inr apart) = absurd (apart.0 here.0)
    each (inr apart) (inl here) = absurd (apart.0 here.0)
    each (inr apart) (inr now_apart) = apart.1 ∙ were other below ∙ ap (end_at other) (sym now_apart.1)

-- where it runs something else that is to end as before
pub ends_kept : (ends : List (Option CoreEvent)) (seats : ℕ → Option Running) (seat : ℕ) (what : Option Running)
    → ((other : ℕ) → other < 16 → entry ends other ≡ end_at other (seats other)) → end_at seat what ≡ end_at seat (seats seat)
    → (other : ℕ) → other < 16 → entry ends other ≡ end_at other (changed seats seat what other)
ends_kept ends seats seat what were same other below =
    elim (changed_cases seats seat what other) [
      | inl here ↦ were other below ∙ back other here.0 ∙ ap (end_at other) (sym here.1)
      | inr apart ↦ were other below ∙ ap (end_at other) (sym apart.1)
    ]
  where
    back : (n : ℕ) → n ≡ seat → end_at n (seats n) ≡ end_at n what
    back n here = subst (λ (m : ℕ). end_at m (seats m) ≡ end_at m what) (sym here) (sym same)

-- ---- a command that was denied an ask

-- its end may happen, and takes no memory
pub denied_can : (course : CourseState) (seat : ℕ) (was : WasDenied course seat) → IsEnabled course.plan (now course) (Finish seat was.verdict [])
denied_can course seat was = (was.it.running, was.it.rule, was.it.runs, subst (λ (d : Option (List ℕ × Verdict)). FitsEnd was.it.rule d was.verdict []) (sym was.denied) (refl, refl))

pub denied_free : (state : State) (seat : ℕ) (running : Running) (denied : List ℕ × Verdict) (given : Verdict) (written : List (Names × Stamp)) → state.seats seat ≡ Some running → running.denied ≡ Some denied
    → TakesMemory state (Finish seat given written) → ⊥
denied_free state seat running denied given written here kept takes = go given takes
  where
    clash : (other : Running) → state.seats seat ≡ Some other → other.denied ≡ None → ⊥
    clash other there none = cc

    go : (verdict : Verdict) → TakesMemory state (Finish seat verdict written) → ⊥
    go Good it = it
    go (Failed status) it = clash it.0 it.1 it.2
    go (IllegalRead text) it = clash it.0 it.1 it.2
    go (IllegalWrite text) it = clash it.0 it.1 it.2
    go (Unwritten path) it = clash it.0 it.1 it.2
    go TooManyReads it = clash it.0 it.1 it.2

-- it is the end that was made ready
pub denied_end : (course : CourseState) (seat : ℕ) (ends : List (Option CoreEvent)) (was : WasDenied course seat) → entry ends seat ≡ end_at seat ((now course).seats seat)
    → entry ends seat ≡ Some (Finish seat was.verdict [])
denied_end course seat ends was told =
    told ∙ ap (end_at seat) was.it.runs.here ∙ ap (option_map (λ (denied : List ℕ × Verdict). Finish seat denied.1 [])) was.denied

-- a seat that ended runs nothing
pub seats_finished : (plan : Plan) (state : State) (seat : ℕ) (running : Running) (given : Verdict) (written : List (Names × Stamp)) → state.seats seat ≡ Some running
    → (after plan state (Finish seat given written)).seats ≡ changed state.seats seat None
seats_finished plan state seat running given written here =
    ap (λ (s : State). s.seats) (finished_is plan state seat running given written here) ∙ seats_ended plan (emptied state seat) running.rule given written
