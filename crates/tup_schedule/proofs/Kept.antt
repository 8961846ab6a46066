-- What is kept of a course at the end of each of its calls, from what its callers see and what the code did.
use Rattle.std.proofs.Common.{◌≡◌, ℕ, ◌+◌, ◌<◌, ◌≤◌, List, [], ◌∷◌, ◌++◌, length, Option, None, Some, sym, ap, ◌∙◌, subst}
use Rattle.std.specs.Prelude.{IfOk, OnOk, OnErr, Result, Ok, Err, slice_get, slice_set}
use Rattle.std.proofs.lemmas.Option.{same_Some, slice_get_within}
use Rattle.tup_rule.specs.declared.rule.Rule.{Rule}
use Rattle.tup_access.specs.Access.{access}
use Rattle.tup_access.specs.declared.verdict.Access.{Access}
use Rattle.tup_access.specs.declared.verdict.Verdict.{Verdict}
use Rattle.tup_access.specs.declared.verdict.Verdict.TheVariants.{Good}
use Rattle.tup_core.specs.declared.event.Cause.{Cause}
use Rattle.tup_core.specs.declared.event.Cause.TheVariants.{Bad}
use Rattle.tup_core.specs.declared.event.CoreEvent.{CoreEvent}
use Rattle.tup_core.specs.declared.event.CoreEvent.TheVariants.{Claim, Deny, Finish, Stop}
use Rattle.tup_core.specs.declared.machine.Core.{Core}
use Rattle.tup_core.specs.declared.plan.Plan.{Plan}
use Rattle.tup_core.specs.declared.running.Running.{Running}
use Rattle.tup_core.specs.Machine.{entry, state_of, IsCore, TakesMemory}
use Rattle.tup_core.specs.Step.{State, IsEnabled, Runs, after}
use Rattle.tup_schedule.specs.declared.turn.Turn.{Turn}
use Rattle.tup_schedule.specs.Turn.{IsTurn, Frees, Takes}
use Rattle.tup_schedule.specs.Course.{CourseState, IsCourse, RunsRule, GoesOn, WasDenied, IsGoodEnd, KeepsBeside, end_at, now, with_events}
use Rattle.tup_schedule.specs.Room.{to_come}
use Rattle.tup_schedule.proofs.Courses.{denied_can, denied_end, denied_free}
use Rattle.tup_schedule.proofs.Going.{Moves, course_claims, course_stops, course_denied, course_ends_well, course_goes_on, course_denies, course_same}
use Rattle.tup_schedule.proofs.Views.{from_now, plan_here, moves_here, finish_fits, seen_more, seen_same}

module _ (course given : CourseState) (old : Core) (turn : Turn) (ends : List (Option CoreEvent)) (capacity : ℕ)
    (is : IsCourse course old turn ends capacity) (view : course ≡ given) (plan : Plan) (plan_is : plan ≡ given.plan) where
  here : plan ≡ course.plan
  here = plan_here course given old turn ends capacity is view plan plan_is

  moved : (event : CoreEvent) (new : Core) (items : List CoreEvent) → IsEnabled plan (now given) event → IsCore plan new → new.files.first ≡ old.files.first
      → state_of new ≡ after plan (state_of old) event → items ≡ course.history ++ event ∷ [] → Moves course event old new items
  moved = moves_here course given old turn ends capacity is view plan plan_is

  pub claim_kept : (seat rule : ℕ) (new : Core) (items : List CoreEvent) (new_turn : Turn) (grown : ℕ) → IsEnabled plan (now given) (Claim seat rule) → IsCore plan new → new.files.first ≡ old.files.first
      → state_of new ≡ after plan (state_of old) (Claim seat rule) → items ≡ course.history ++ Claim seat rule ∷ []
      → ((before after : State) → IsTurn plan before turn → Takes before rule after → IsTurn plan after new_turn) → capacity ≤ grown
      → IsCourse (record course { history = items }) new new_turn ends grown
  claim_kept seat rule new items new_turn grown enabled kept first state longer turns more =
      course_claims course old turn ends capacity is seat rule new items new_turn grown (moved (Claim seat rule) new items enabled kept first state longer)
      (subst (λ (p : Plan). (before after : State) → IsTurn p before turn → Takes before rule after → IsTurn p after new_turn) here turns) more

  pub stop_kept : (seat : ℕ) (cause : Cause) (new : Core) (items : List CoreEvent) (grown : ℕ) → seat < 16 → (cause ≡ Bad → ⊥) → IsCore plan new → new.files.first ≡ old.files.first
      → state_of new ≡ after plan (state_of old) (Stop seat cause) → items ≡ course.history ++ Stop seat cause ∷ []
      → ((now given).seats seat ≡ None → (now given).stopped ≡ None) → capacity ≤ grown
      → IsCourse (record course { history = items }) new turn (slice_set ends seat None) grown
  stop_kept seat cause new items grown within other kept first state longer one more =
      course_stops course old turn ends capacity is seat cause new items grown (moved (Stop seat cause) new items (within, other) kept first state longer)
      (subst (λ (c : CourseState). (now c).seats seat ≡ None → (now c).stopped ≡ None) (sym view) one) more

  -- ---- a command that was denied an ask

  denied_here : (seat : ℕ) → WasDenied given seat → WasDenied course seat
  denied_here seat was = record {
    it = record {
      running = was.it.running;
      rule = was.it.rule;
      runs = subst (λ (c : CourseState). Runs c.plan (now c) seat was.it.running was.it.rule) (sym view) was.it.runs;
    };
    text = was.text;
    verdict = was.verdict;
    denied = was.denied;
  }

  -- the end that is ready at its seat is the one with its verdict
  pub denied_ready : (seat : ℕ) (was : WasDenied given seat) → entry ends seat ≡ Some (Finish seat was.verdict [])
  denied_ready seat was = denied_end given seat ends was (is.at_seats seat was.it.runs.within ∙ ap (λ (c : CourseState). end_at seat ((now c).seats seat)) view)

  pub denied_enabled : (seat : ℕ) (was : WasDenied given seat) → IsEnabled plan (now given) (Finish seat was.verdict [])
  denied_enabled seat was = subst (λ (p : Plan). IsEnabled p (now given) (Finish seat was.verdict [])) (sym plan_is) (denied_can given seat was)

  pub denied_takes : (seat : ℕ) (was : WasDenied given seat) → TakesMemory (state_of old) (Finish seat was.verdict []) → ⊥
  denied_takes seat was =
      from_now course given old turn ends capacity is view (λ s. TakesMemory s (Finish seat was.verdict []) → ⊥)
      (denied_free (now given) seat was.it.running (was.text, was.verdict) was.verdict [] was.it.runs.here was.denied)

  pub denied_fits : (seat : ℕ) → WasDenied given seat → length course.history < capacity
  denied_fits seat was = finish_fits course given old turn ends capacity is view seat was.it.running was.verdict [] was.it.runs.within was.it.runs.here

  pub denied_kept : (seat : ℕ) (was : WasDenied given seat) (new : Core) (items : List CoreEvent) (grown : ℕ) → IsCore plan new → new.files.first ≡ old.files.first
      → state_of new ≡ after plan (state_of old) (Finish seat was.verdict []) → items ≡ course.history ++ Finish seat was.verdict [] ∷ [] → capacity ≤ grown
      → IsCourse (record course { history = items }) new turn (slice_set ends seat None) grown
  unfolding denied_here
  denied_kept seat was new items grown kept first state longer more =
      course_denied course old turn ends capacity is seat (denied_here seat was) new items grown (moved (Finish seat was.verdict []) new items (denied_enabled seat was) kept first state longer) more

  -- ---- a command that is Good

  goes_here : (seat : ℕ) → GoesOn given seat → GoesOn course seat
  goes_here seat goes = record {
    it = record {
      running = goes.it.running;
      rule = goes.it.rule;
      runs = subst (λ (c : CourseState). Runs c.plan (now c) seat goes.it.running goes.it.rule) (sym view) goes.it.runs;
    };
    granted = goes.granted;
  }

  pub good_enabled : (rule : ℕ) (event : CoreEvent) → IsGoodEnd given rule event → IsEnabled plan (now given) event
  good_enabled rule event good = subst (λ (p : Plan). IsEnabled p (now given) event) (sym plan_is) good.enabled

  pub good_takes : (rule : ℕ) (event : CoreEvent) → IsGoodEnd given rule event → TakesMemory (state_of old) event → ⊥
  good_takes rule event good takes = subst (λ (e : CoreEvent). TakesMemory (state_of old) e) good.is takes

  pub good_fits : (rule : ℕ) (event : CoreEvent) → IsGoodEnd given rule event → length course.history < capacity
  good_fits rule event good = finish_fits course given old turn ends capacity is view good.seat good.it.it.running Good good.files good.it.it.runs.within good.it.it.runs.here

  -- its rule is one of the plan
  pub good_within : (rule : ℕ) (event : CoreEvent) → IsGoodEnd given rule event → rule < length plan.rules
  good_within rule event good =
      subst (λ (n : ℕ). n < length plan.rules) good.rule
      (subst (λ (p : Plan). good.it.it.running.rule < length p.rules) (sym plan_is) (slice_get_within given.plan.rules good.it.it.running.rule good.it.it.rule good.it.it.runs.placed))

  pub good_kept : (rule : ℕ) (event : CoreEvent) (good : IsGoodEnd given rule event) (new : Core) (items : List CoreEvent) (new_turn : Turn) (grown : ℕ) → IsCore plan new → new.files.first ≡ old.files.first
      → state_of new ≡ after plan (state_of old) event → items ≡ course.history ++ event ∷ []
      → ((before : State) → IsTurn plan before turn → Frees plan before rule (state_of new) → IsTurn plan (state_of new) new_turn) → capacity ≤ grown
      → IsCourse (record course { history = items }) new new_turn ends grown
  unfolding goes_here
  good_kept rule event good new items new_turn grown kept first state longer turns more =
      course_ends_well course old turn ends capacity is good.seat (goes_here good.seat good.it) good.files new items new_turn grown
      (moved (Finish good.seat Good good.files) new items
      (subst (λ (e : CoreEvent). IsEnabled plan (now given) e) good.is (good_enabled rule event good)) kept first
      (state ∙ ap (after plan (state_of old)) good.is) (longer ∙ ap (λ (e : CoreEvent). course.history ++ e ∷ []) good.is))
      (subst (λ (p : Plan). (before : State) → IsTurn p before turn → Frees p before good.it.it.running.rule (state_of new) → IsTurn p (state_of new) new_turn) here
      (subst (λ (n : ℕ). (before : State) → IsTurn plan before turn → Frees plan before n (state_of new) → IsTurn plan (state_of new) new_turn) (sym good.rule) turns)) more

  -- ---- events for which memory may be wanted

  pub event_kept : (event : CoreEvent) (new : Core) (items : List CoreEvent) (more grown : ℕ) → IsEnabled plan (now given) event → KeepsBeside given event → IsCore plan new → new.files.first ≡ old.files.first
      → state_of new ≡ after plan (state_of old) event → items ≡ course.history ++ event ∷ [] → ((s : State) → to_come plan s ≤ more) → length items + more ≤ grown
      → IsCourse (record course { history = items }) new turn ends grown
  event_kept event new items more grown enabled keeps kept first state longer few room =
      course_goes_on course old turn ends capacity is event new items more grown (moved event new items enabled kept first state longer)
      (subst (λ (c : CourseState). KeepsBeside c event) (sym view) keeps)
      (subst (λ (p : Plan). (s : State) → to_come p s ≤ more) here few (after course.plan (now course) event)) room

  pub deny_kept : (seat : ℕ) (text : List ℕ) (verdict : Verdict) (new : Core) (items : List CoreEvent) (more grown : ℕ) → IsEnabled plan (now given) (Deny seat text verdict) → IsCore plan new → new.files.first ≡ old.files.first
      → state_of new ≡ after plan (state_of old) (Deny seat text verdict) → items ≡ course.history ++ Deny seat text verdict ∷ [] → ((s : State) → to_come plan s ≤ more) → length items + more ≤ grown
      → IsCourse (record course { history = items }) new turn (slice_set ends seat (Some (Finish seat verdict []))) grown
  deny_kept seat text verdict new items more grown enabled kept first state longer few room =
      course_denies course old turn ends capacity is seat text verdict new items more grown (moved (Deny seat text verdict) new items enabled kept first state longer)
      (subst (λ (p : Plan). (s : State) → to_come p s ≤ more) here few (after course.plan (now course) (Deny seat text verdict))) room

  -- the same of an event and an end that were made
  pub deny_done : (seat : ℕ) (text : List ℕ) (verdict : Verdict) (event end : CoreEvent) (new : Core) (items : List CoreEvent) (more grown : ℕ) → event ≡ Deny seat text verdict → end ≡ Finish seat verdict []
      → IsEnabled plan (now given) (Deny seat text verdict) → IsCore plan new → new.files.first ≡ old.files.first
      → state_of new ≡ after plan (state_of old) event → items ≡ course.history ++ event ∷ [] → ((s : State) → to_come plan s ≤ more) → length items + more ≤ grown
      → IsCourse (record course { history = items }) new turn (slice_set ends seat (Some end)) grown
  deny_done seat text verdict event end new items more grown event_is end_is enabled kept first state longer few room =
      subst (λ (e : CoreEvent). IsCourse (record course { history = items }) new turn (slice_set ends seat (Some e)) grown) (sym end_is)
      (deny_kept seat text verdict new items more grown enabled kept first (state ∙ ap (after plan (state_of old)) event_is) (longer ∙ ap (λ (e : CoreEvent). course.history ++ e ∷ []) event_is) few room)

  -- nothing happened
  pub same_kept : (new : Core) (items : List CoreEvent) (grown : ℕ) → IsCore plan new → new.files.first ≡ old.files.first → state_of new ≡ state_of old → items ≡ course.history → capacity ≤ grown
      → IsCourse (record course { history = items }) new turn ends grown
  same_kept new items grown kept first same unchanged more =
      course_same course old turn ends capacity is new items grown (subst (λ (p : Plan). IsCore p new) here kept) first same unchanged more

  -- it was taken, or nothing happened
  pub tried_kept : {E : Type 0} (event : CoreEvent) (new : Core) (items : List CoreEvent) (more grown : ℕ) (result : Result (Unit {0}) E) → IsEnabled plan (now given) event → KeepsBeside given event → IsCore plan new → new.files.first ≡ old.files.first
      → OnOk result (state_of new ≡ after plan (state_of old) event) → OnOk result (items ≡ course.history ++ event ∷ []) → ((s : State) → to_come plan s ≤ more) → OnOk result (length items + more ≤ grown)
      → OnErr result (state_of new ≡ state_of old) → OnErr result (items ≡ course.history) → capacity ≤ grown
      → IsCourse (record course { history = items }) new turn ends grown
  tried_kept event new items more grown (Ok done) enabled keeps kept first state longer few room same unchanged no_less = event_kept event new items more grown enabled keeps kept first state longer few room
  tried_kept event new items more grown (Err fault) enabled keeps kept first state longer few room same unchanged no_less = same_kept new items grown kept first same unchanged no_less

-- what callers see of a course that an event was told, or not
pub seen_tried : {E : Type 0} (course given : CourseState) (event : CoreEvent) (items : List CoreEvent) (result : Result (Unit {0}) E) → course ≡ given → OnOk result (items ≡ course.history ++ event ∷ [])
    → OnOk result (record course { history = items } ≡ with_events given (event ∷ []))
seen_tried course given event items (Ok done) view longer = seen_more course given event items view longer
seen_tried course given event items (Err fault) view longer = tt

pub seen_refused : {E : Type 0} (course given : CourseState) (items : List CoreEvent) (result : Result (Unit {0}) E) → course ≡ given → OnErr result (items ≡ course.history)
    → OnErr result (record course { history = items } ≡ given)
seen_refused course given items (Ok done) view same = tt
seen_refused course given items (Err fault) view same = seen_same course given items view same

-- what a core says of an ask is what becomes of it
pub access_told : {E : Type 0} (given : CourseState) (plan : Plan) (seat : ℕ) (running : Running) (text : List ℕ) (result : Result Access E) → plan ≡ given.plan → (now given).seats seat ≡ Some running
    → IfOk result (λ found. (rule : Rule) → slice_get plan.rules running.rule ≡ Some rule → found ≡ access plan.rules rule (length running.asks) text)
    → IfOk result (λ found. (it : RunsRule given seat) → found ≡ access plan.rules it.rule (length it.running.asks) text)
access_told given plan seat running text (Err fault) plan_is runs told = tt
access_told given plan seat running text (Ok found) plan_is runs told = λ it.
    let same : running ≡ it.running = same_Some _ _ (sym runs ∙ it.runs.here) in
    told it.rule (ap (λ (p : Plan). slice_get p.rules running.rule) plan_is ∙ ap (λ (r : Running). slice_get given.plan.rules r.rule) same ∙ it.runs.placed)
    ∙ ap (λ (r : Running). access plan.rules it.rule (length r.asks) text) same
