-- What is kept of a course after each of its calls, told over plain values: the core and the history that took one event.
use Rattle.std.proofs.Common.{◌≡◌, ℕ, zero, suc, ◌+◌, ◌*◌, ◌<◌, ◌≤◌, true, false, List, [], ◌∷◌, ◌++◌, length, replicate, Option, None, Some, refl, sym, ap, ◌∙◌, subst, inl, inr, arith}
use Rattle.std.specs.Prelude.{if◌then◌else◌, slice_set}
use Rattle.std.specs.FinMap as finite
use Rattle.std.specs.Option.{option_map}
use Rattle.std.proofs.lemmas.List.{length-set, length-replicate, length_push}
use Rattle.tup_path.specs.Name.{Names}
use Rattle.tup_stamp.specs.declared.Stamp.{Stamp}
use Rattle.tup_access.specs.declared.verdict.Verdict.{Verdict}
use Rattle.tup_access.specs.declared.verdict.Verdict.TheVariants.{Good, Failed, IllegalRead, IllegalWrite, Unwritten, TooManyReads}
use Rattle.tup_access.proofs.Permitted.{access-No}
use Rattle.tup_core.specs.declared.event.Cause.{Cause}
use Rattle.tup_core.specs.declared.event.Cause.TheVariants.{Bad}
use Rattle.tup_core.specs.declared.event.CoreEvent.{CoreEvent}
use Rattle.tup_core.specs.declared.event.CoreEvent.TheVariants.{Claim, Ask, Deny, Finish, Stop}
use Rattle.tup_core.specs.declared.machine.Core.{Core}
use Rattle.tup_core.specs.declared.plan.Plan.{Plan}
use Rattle.tup_core.specs.declared.running.Running.{Running}
use Rattle.tup_core.specs.Machine.{entry, state_of, IsCore}
use Rattle.tup_core.specs.Step.{State, IsEnabled, after, asked, refused, changed, emptied, ended, is_reached, opening, stopped_by}
use Rattle.tup_core.proofs.Changed.{changed_cases}
use Rattle.tup_core.proofs.Counted.{all_counted}
use Rattle.tup_core.proofs.Orderly.{finished_is}
use Rattle.tup_schedule.specs.declared.turn.Turn.{Turn}
use Rattle.tup_schedule.specs.Turn.{IsTurn, IsSettledIn, IsSameTurn, Frees, Takes}
use Rattle.tup_schedule.proofs.TurnLaws.{turn_stays, settled_of}
use Rattle.tup_schedule.specs.Course.{CourseState, IsCourse, GoesOn, WasDenied, KeepsBeside, now, end_at}
use Rattle.tup_schedule.specs.Room.{to_come}
use Rattle.tup_schedule.proofs.Courses.{course_more, ends_changed, ends_kept, seats_finished}
use Rattle.tup_schedule.proofs.Rooms.{claim_costs, finish_costs, stop_costs, opening_come}

-- a core took an event that might happen, and so did the history
pub record Moves (course : CourseState) (event : CoreEvent) (old new : Core) (items : List CoreEvent) : Type 0 where
  pub enabled : IsEnabled course.plan (now course) event
  pub is_core : IsCore course.plan new
  pub first : new.files.first ≡ old.files.first
  pub state : state_of new ≡ after course.plan (state_of old) event
  pub told : items ≡ course.history ++ event ∷ []

module _ (course : CourseState) (old : Core) (old_turn : Turn) (old_ends : List (Option CoreEvent)) (old_capacity : ℕ)
    (is : IsCourse course old old_turn old_ends old_capacity) where
  -- ---- what each state of a course is

  -- what is pending was reached
  pub now_reached : (number : ℕ) → (now course).pending number ≡ true → is_reached course.plan number ≡ true
  now_reached number up = is.is_core.reached number (ap (λ (s : State). s.pending number) is.at_end ∙ up)

  -- a verdict on a text that was denied isn't Good
  pub denied_bad : (seat : ℕ) (was : WasDenied course seat) → was.verdict ≡ Good → ⊥
  denied_bad seat was =
      access-No course.plan.rules was.it.rule (length was.it.running.asks) was.text was.verdict
      (((all_counted course.plan course.files course.history is.run).each seat was.it.running was.it.runs.here).refusal was.it.rule (was.text, was.verdict) was.it.runs.placed was.denied)

  -- ---- one event

  -- the core goes by the same files
  files_stay : (before new : Core) → new.files.first ≡ before.files.first → finite.entries before.files.first.value ≡ course.files → finite.entries new.files.first.value ≡ course.files
  files_stay before new first by_files = (λ i. finite.entries (first i).value) ∙ by_files

  -- what is kept, once a core and the history took it
  course_moved : (event : CoreEvent) (new : Core) (items : List CoreEvent) (turn : Turn) (ends : List (Option CoreEvent)) (capacity : ℕ)
      → Moves course event old new items → IsTurn course.plan (after course.plan (now course) event) turn
      → length ends ≡ 16 → ((seat : ℕ) → seat < 16 → entry ends seat ≡ end_at seat ((after course.plan (now course) event).seats seat))
      → length course.history + 1 + to_come course.plan (after course.plan (now course) event) ≤ capacity
      → IsCourse (record course { history = items }) new turn ends capacity
  course_moved event new items turn ends capacity moves turns many each room =
      subst (λ (h : List CoreEvent). IsCourse (record course { history = h }) new turn ends capacity) (sym moves.told)
      (course_more course event new turn ends capacity is.run moves.enabled moves.is_core (files_stay old new moves.first is.by_files)
      (moves.state ∙ ap (λ (s : State). after course.plan s event) is.at_end) turns many each room)

  -- nothing happened, though the core was touched and there may be more room
  pub course_same : (new : Core) (items : List CoreEvent) (capacity : ℕ) → IsCore course.plan new → new.files.first ≡ old.files.first → state_of new ≡ state_of old → items ≡ course.history → old_capacity ≤ capacity
      → IsCourse (record course { history = items }) new old_turn old_ends capacity
  course_same new items capacity kept first same unchanged grows =
      subst (λ (h : List CoreEvent). IsCourse (record course { history = h }) new old_turn old_ends capacity) (sym unchanged) (record {
        is_core = kept;
        by_files = files_stay old new first is.by_files;
        at_end = same ∙ is.at_end;
        is_turn = is.is_turn;
        run = is.run;
        many = is.many;
        at_seats = is.at_seats;
        room = let room = is.room in omega (arith, room, grows);
      })

  -- a claim
  pub course_claims : (seat rule : ℕ) (new : Core) (items : List CoreEvent) (turn : Turn) (capacity : ℕ)
      → Moves course (Claim seat rule) old new items
      → ((before after : State) → IsTurn course.plan before old_turn → Takes before rule after → IsTurn course.plan after turn)
      → old_capacity ≤ capacity → IsCourse (record course { history = items }) new turn old_ends capacity
  course_claims seat rule new items turn capacity moves turns grows =
      course_moved (Claim seat rule) new items turn old_ends capacity moves
      (turns (now course) (after course.plan (now course) (Claim seat rule)) is.is_turn (record { pending = λ at. refl; claimed = λ at. refl }))
      is.many
      (ends_kept old_ends (now course).seats seat (Some (record { rule = rule; asks = []; denied = None })) is.at_seats (sym (ap (end_at seat) moves.enabled.1)))
      (let cost = claim_costs course.plan (now course) seat rule moves.enabled (now_reached rule moves.enabled.2.pending) in
      let room = is.room in
      omega (arith, cost, room, grows))

  -- a stop
  pub course_stops : (seat : ℕ) (cause : Cause) (new : Core) (items : List CoreEvent) (capacity : ℕ)
      → Moves course (Stop seat cause) old new items → ((now course).seats seat ≡ None → (now course).stopped ≡ None)
      → old_capacity ≤ capacity → IsCourse (record course { history = items }) new old_turn (slice_set old_ends seat None) capacity
  course_stops seat cause new items capacity moves one grows =
      course_moved (Stop seat cause) new items old_turn (slice_set old_ends seat None) capacity moves
      (turn_stays course.plan (now course) (after course.plan (now course) (Stop seat cause)) old_turn (record { pending = λ at. refl; claimed = λ at. refl }) is.is_turn)
      (length-set old_ends seat None ∙ is.many)
      (ends_changed old_ends (now course).seats seat None None (seat_within seat moves.enabled.0) is.at_seats refl)
      (let cost = stop_costs course.plan (now course) seat cause moves.enabled.0 one in
      let room = is.room in
      omega (arith, cost, room, grows))
    where
      seat_within : (n : ℕ) → n < 16 → n < length old_ends
      seat_within n below = let many = is.many in omega (arith, below, many)

-- ---- what the end of a rule leaves that wasn't Good
pub bad_ended : (plan : Plan) (before : State) (at : ℕ) (given : Verdict) (written : List (Names × Stamp)) → (given ≡ Good → ⊥)
    → ended plan before at given written ≡ record before { bad = changed before.bad at (Some given); stopped = if plan.keep_going then before.stopped else stopped_by before Bad }
bad_ended plan before at Good written bad = absurd (bad refl)
bad_ended plan before at (Failed status) written bad = refl
bad_ended plan before at (IllegalRead text) written bad = refl
bad_ended plan before at (IllegalWrite text) written bad = refl
bad_ended plan before at (Unwritten path) written bad = refl
bad_ended plan before at TooManyReads written bad = refl

-- it leaves what is pending and claimed
pub bad_turn : (plan : Plan) (before : State) (seat : ℕ) (running : Running) (given : Verdict) (written : List (Names × Stamp)) → before.seats seat ≡ Some running → (given ≡ Good → ⊥)
    → IsSameTurn before (after plan before (Finish seat given written))
bad_turn plan before seat running given written here bad =
    let is = finished_is plan before seat running given written here ∙ bad_ended plan (emptied before seat) running.rule given written bad in
    record {
      pending = λ number. ap (λ (s : State). s.pending number) is;
      claimed = λ number. ap (λ (s : State). s.claimed number) is;
    }

-- what the end of a Good rule leaves
good_pending : (plan : Plan) (before : State) (seat : ℕ) (running : Running) (written : List (Names × Stamp)) → before.seats seat ≡ Some running
    → (at : ℕ) → (after plan before (Finish seat Good written)).pending at ≡ changed before.pending running.rule false at
good_pending plan before seat running written here at = ap (λ (s : State). s.pending at) (finished_is plan before seat running Good written here)

good_claimed : (plan : Plan) (before : State) (seat : ℕ) (running : Running) (written : List (Names × Stamp)) → before.seats seat ≡ Some running
    → (at : ℕ) → (after plan before (Finish seat Good written)).claimed at ≡ before.claimed at
good_claimed plan before seat running written here at = ap (λ (s : State). s.claimed at) (finished_is plan before seat running Good written here)

module _ (course : CourseState) (old : Core) (old_turn : Turn) (old_ends : List (Option CoreEvent)) (old_capacity : ℕ)
    (is : IsCourse course old old_turn old_ends old_capacity) where
  seats_after : (seat : ℕ) (running : Running) (given : Verdict) (written : List (Names × Stamp)) → (now course).seats seat ≡ Some running → (other : ℕ)
      → (after course.plan (now course) (Finish seat given written)).seats other ≡ changed (now course).seats seat None other
  seats_after seat running given written here other = ap (λ (s : ℕ → Option Running). s other) (seats_finished course.plan (now course) seat running given written here)

  -- the end of a command that was denied an ask
  pub course_denied : (seat : ℕ) (was : WasDenied course seat) (new : Core) (items : List CoreEvent) (capacity : ℕ)
      → Moves course (Finish seat was.verdict []) old new items → old_capacity ≤ capacity
      → IsCourse (record course { history = items }) new old_turn (slice_set old_ends seat None) capacity
  course_denied seat was new items capacity moves grows =
      course_moved course old old_turn old_ends old_capacity is (Finish seat was.verdict []) new items old_turn (slice_set old_ends seat None) capacity moves
      (turn_stays course.plan (now course) (after course.plan (now course) (Finish seat was.verdict [])) old_turn
      (bad_turn course.plan (now course) seat was.it.running was.verdict [] was.it.runs.here (denied_bad course old old_turn old_ends old_capacity is seat was)) is.is_turn)
      (length-set old_ends seat None ∙ is.many)
      (λ other below. ends_changed old_ends (now course).seats seat None None (let many = is.many in let within = was.it.runs.within in omega (arith, many, within)) is.at_seats refl other below
      ∙ ap (end_at other) (sym (seats_after seat was.it.running was.verdict [] was.it.runs.here other)))
      (let cost = finish_costs course.plan (now course) seat was.it.running was.verdict [] was.it.runs.within was.it.runs.here in
      let room = is.room in
      omega (arith, cost, room, grows))

  -- the Good end of a command
  pub course_ends_well : (seat : ℕ) (it : GoesOn course seat) (written : List (Names × Stamp)) (new : Core) (items : List CoreEvent) (turn : Turn) (capacity : ℕ)
      → Moves course (Finish seat Good written) old new items
      → ((before : State) → IsTurn course.plan before old_turn → Frees course.plan before it.it.running.rule (state_of new) → IsTurn course.plan (state_of new) turn)
      → old_capacity ≤ capacity → IsCourse (record course { history = items }) new turn old_ends capacity
  course_ends_well seat it written new items turn capacity moves turns grows =
      course_moved course old old_turn old_ends old_capacity is (Finish seat Good written) new items turn old_ends capacity moves
      (subst (λ (s : State). IsTurn course.plan s turn) new_is (turns (now course) is.is_turn frees))
      is.many
      (λ other below. ends_kept old_ends (now course).seats seat None is.at_seats (sym ended_none) other below
      ∙ ap (end_at other) (sym (seats_after seat it.it.running Good written it.it.runs.here other)))
      (let cost = finish_costs course.plan (now course) seat it.it.running Good written it.it.runs.within it.it.runs.here in
      let room = is.room in
      omega (arith, cost, room, grows))
    where
      new_is : state_of new ≡ after course.plan (now course) (Finish seat Good written)
      new_is = moves.state ∙ ap (λ (s : State). after course.plan s (Finish seat Good written)) is.at_end

      ended_none : end_at seat ((now course).seats seat) ≡ None
      ended_none = ap (end_at seat) it.it.runs.here ∙ ap (option_map (λ (denied : List ℕ × Verdict). Finish seat denied.1 [])) it.granted

      frees : Frees course.plan (now course) it.it.running.rule (state_of new)
      frees = record {
        reached = now_reached course old old_turn old_ends old_capacity is it.it.running.rule;
        settled = subst (IsSettledIn course.plan) is.at_end (settled_of course.plan old is.is_core);
        pending = λ at. ap (λ (s : State). s.pending at) new_is ∙ good_pending course.plan (now course) seat it.it.running written it.it.runs.here at;
        claimed = λ at. ap (λ (s : State). s.claimed at) new_is ∙ good_claimed course.plan (now course) seat it.it.running written it.it.runs.here at;
      }

  -- an event that leaves which rules may be claimed and how commands are to end, with room for all that may come
  pub course_goes_on : (event : CoreEvent) (new : Core) (items : List CoreEvent) (more capacity : ℕ)
      → Moves course event old new items → KeepsBeside course event → to_come course.plan (after course.plan (now course) event) ≤ more
      → length items + more ≤ capacity → IsCourse (record course { history = items }) new old_turn old_ends capacity
  course_goes_on event new items more capacity moves keeps most room =
      course_moved course old old_turn old_ends old_capacity is event new items old_turn old_ends capacity moves
      (turn_stays course.plan (now course) (after course.plan (now course) event) old_turn keeps.turn is.is_turn)
      is.many
      (λ seat below. is.at_seats seat below ∙ sym (keeps.ends seat))
      (let longer = ap length moves.told ∙ length_push course.history event in omega (arith, longer, most, room))

  -- a text is denied, and the end of the command is made ready
  pub course_denies : (seat : ℕ) (text : List ℕ) (given : Verdict) (new : Core) (items : List CoreEvent) (more capacity : ℕ)
      → Moves course (Deny seat text given) old new items → to_come course.plan (after course.plan (now course) (Deny seat text given)) ≤ more
      → length items + more ≤ capacity → IsCourse (record course { history = items }) new old_turn (slice_set old_ends seat (Some (Finish seat given []))) capacity
  course_denies seat text given new items more capacity moves most room =
      course_moved course old old_turn old_ends old_capacity is (Deny seat text given) new items old_turn (slice_set old_ends seat (Some (Finish seat given []))) capacity moves
      (turn_stays course.plan (now course) (after course.plan (now course) (Deny seat text given)) old_turn (record { pending = λ at. refl; claimed = λ at. refl }) is.is_turn)
      (length-set old_ends seat (Some (Finish seat given [])) ∙ is.many)
      (ends_changed old_ends (now course).seats seat (Some (Finish seat given [])) (option_map (refused text given) ((now course).seats seat))
      (let many = is.many in let within = moves.enabled.2.within in omega (arith, many, within)) is.at_seats
      (sym (ap (λ (r : Option Running). end_at seat (option_map (refused text given) r)) moves.enabled.2.here)))
      (let longer = ap length moves.told ∙ length_push course.history (Deny seat text given) in omega (arith, longer, most, room))

-- ---- which events leave what stands beside the core

-- an ask
pub ask_keeps : (course : CourseState) (seat : ℕ) (text : List ℕ) (answer : Option Stamp) → KeepsBeside course (Ask seat text answer)
ask_keeps course seat text answer = record {
  turn = record { pending = λ at. refl; claimed = λ at. refl };
  ends = λ other. elim (changed_cases (now course).seats seat (option_map (asked text answer) ((now course).seats seat)) other) [
    | inl here ↦ ap (end_at other) here.1 ∙ same_end other ((now course).seats seat) ∙ ap (λ (n : ℕ). end_at other ((now course).seats n)) (sym here.0)
    | inr apart ↦ ap (end_at other) apart.1
  ];
}
  where
    same_end : (n : ℕ) (runs : Option Running) → end_at n (option_map (asked text answer) runs) ≡ end_at n runs
    same_end n None = refl
    same_end n (Some running) = refl

-- the end of a command that was denied nothing, and isn't Good
pub bad_keeps : (course : CourseState) (seat : ℕ) (it : GoesOn course seat) (given : Verdict) → (given ≡ Good → ⊥) → KeepsBeside course (Finish seat given [])
bad_keeps course seat it given bad = record {
  turn = bad_turn course.plan (now course) seat it.it.running given [] it.it.runs.here bad;
  ends = λ other. ap (λ (s : ℕ → Option Running). end_at other (s other)) (seats_finished course.plan (now course) seat it.it.running given [] it.it.runs.here)
      ∙ elim (changed_cases (now course).seats seat None other) [
        | inl here ↦ ap (end_at other) here.1 ∙ sym (none_at other here.0)
        | inr apart ↦ ap (end_at other) apart.1
      ];
}
  where
    none_at : (n : ℕ) → n ≡ seat → end_at n ((now course).seats n) ≡ None
    none_at n here = ap (λ (m : ℕ). end_at n ((now course).seats m)) here ∙ ap (end_at n) it.it.runs.here ∙ ap (option_map (λ (denied : List ℕ × Verdict). Finish n denied.1 [])) it.granted

-- ---- the beginning
pub course_opens : (plan : Plan) (files : List (Names × Stamp)) (core : Core) (turn : Turn) (ends : List (Option CoreEvent)) (capacity : ℕ) → IsCore plan core → finite.entries core.files.first.value ≡ files → state_of core ≡ opening plan files
    → IsTurn plan (state_of core) turn → ends ≡ replicate 16 None → 2 * length plan.reach + 1 ≤ capacity → IsCourse (record { plan = plan; files = files; history = [] }) core turn ends capacity
course_opens plan files core turn ends capacity is by_files state turns none room = record {
  is_core = is;
  by_files = by_files;
  at_end = state;
  is_turn = subst (λ (s : State). IsTurn plan s turn) state turns;
  run = tt;
  many = ap length none ∙ length-replicate 16 nothing;
  at_seats = λ seat below. ap (λ (e : List (Option CoreEvent)). entry e seat) none ∙ none_ready 16 seat;
  room = let come = opening_come plan files in omega (arith, come, room);
}
  where
    nothing : Option CoreEvent
    nothing = None

    none_ready : (count seat : ℕ) → entry (replicate count nothing) seat ≡ None
    none_ready zero seat = refl
    none_ready (suc count) zero = refl
    none_ready (suc count) (suc seat) = none_ready count seat

-- the same of what was remembered of the plan and the files, over a history that was made empty
pub course_made : (plan seen : Plan) (files found : List (Names × Stamp)) (items : List CoreEvent) (core : Core) (turn : Turn) (ends : List (Option CoreEvent)) (capacity : ℕ) → seen ≡ plan → found ≡ files → items ≡ []
    → IsCourse (record { plan = plan; files = files; history = [] }) core turn ends capacity → IsCourse (record { plan = seen; files = found; history = items }) core turn ends capacity
course_made plan seen files found items core turn ends capacity plan_is files_are none is =
    subst (λ (p : Plan). IsCourse (record { plan = p; files = found; history = items }) core turn ends capacity) (sym plan_is)
    (subst (λ (f : List (Names × Stamp)). IsCourse (record { plan = plan; files = f; history = items }) core turn ends capacity) (sym files_are)
    (subst (λ (h : List CoreEvent). IsCourse (record { plan = plan; files = files; history = h }) core turn ends capacity) (sym none) is))
