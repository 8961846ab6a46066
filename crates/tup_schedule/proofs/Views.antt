-- What is said of a course as its callers see it, said of what the code has: its core, its plan, its history.
use Rattle.std.proofs.Common.{◌≡◌, ℕ, ◌<◌, List, [], ◌∷◌, ◌++◌, length, Option, None, Some, refl, sym, ap, ◌∙◌, subst, arith}
use Rattle.std.specs.Prelude.{is_some}
use Rattle.tup_path.specs.Name.{Names}
use Rattle.tup_stamp.specs.declared.Stamp.{Stamp}
use Rattle.tup_access.specs.declared.verdict.Verdict.{Verdict}
use Rattle.tup_core.specs.declared.event.Cause.{Cause}
use Rattle.tup_core.specs.declared.event.CoreEvent.{CoreEvent}
use Rattle.tup_core.specs.declared.event.CoreEvent.TheVariants.{Claim}
use Rattle.tup_core.specs.declared.machine.Core.{Core}
use Rattle.tup_core.specs.declared.plan.Plan.{Plan}
use Rattle.tup_core.specs.declared.running.Running.{Running}
use Rattle.tup_core.specs.Machine.{state_of, IsCore}
use Rattle.tup_core.specs.Step.{State, IsEnabled, IsReady, after}
use Rattle.tup_schedule.specs.declared.turn.Turn.{Turn}
use Rattle.tup_schedule.specs.Turn.{IsTurn, IsFirstReady}
use Rattle.tup_schedule.specs.Course.{CourseState, IsCourse, IsStopped, NoneReady, now, with_events}
use Rattle.tup_schedule.proofs.Going.{Moves, now_reached}
use Rattle.tup_schedule.proofs.Rooms.{claim_costs, finish_costs, stop_costs}

module _ (course given : CourseState) (old : Core) (turn : Turn) (ends : List (Option CoreEvent)) (capacity : ℕ)
    (is : IsCourse course old turn ends capacity) (view : course ≡ given) where
  -- the state that a core stands for is the one that callers see
  pub now_is : state_of old ≡ now given
  now_is = is.at_end ∙ ap now view

  pub from_now : (P : State → Type 0) → P (now given) → P (state_of old)
  from_now P it = subst P (sym now_is) it

  pub to_now : (P : State → Type 0) → P (state_of old) → P (now given)
  to_now P it = subst P now_is it

  -- the plan that was handed in is the one that the course runs
  module _ (plan : Plan) (plan_is : plan ≡ given.plan) where
    pub plan_here : plan ≡ course.plan
    plan_here = plan_is ∙ ap (λ (c : CourseState). c.plan) (sym view)

    pub core_here : IsCore plan old
    core_here = subst (λ (p : Plan). IsCore p old) (sym plan_here) is.is_core

    pub turn_here : IsTurn plan (state_of old) turn
    turn_here = from_now (λ s. IsTurn plan s turn) (subst (λ (p : Plan). IsTurn p (now given) turn) (sym plan_is) (subst (λ (c : CourseState). IsTurn c.plan (now c) turn) view is.is_turn))

    -- what is ready in the core is ready for callers
    pub ready_seen : (number : ℕ) → IsReady plan (state_of old) number → IsReady given.plan (now given) number
    ready_seen number ready = subst (λ (p : Plan). IsReady p (now given) number) plan_is (to_now (λ s. IsReady plan s number) ready)

    pub ready_here : (number : ℕ) → IsReady given.plan (now given) number → IsReady plan (state_of old) number
    ready_here number ready = from_now (λ s. IsReady plan s number) (subst (λ (p : Plan). IsReady p (now given) number) (sym plan_is) ready)

    pub first_seen : (number : ℕ) → IsFirstReady plan (state_of old) number → IsFirstReady given.plan (now given) number
    first_seen number first = record {
      ready = ready_seen number first.ready;
      first = λ before earlier ready. first.first before earlier (ready_here before ready);
    }

    pub none_seen : ((number : ℕ) → IsReady plan (state_of old) number → ⊥) → NoneReady given
    none_seen none = λ number ready. none number (ready_here number ready)

    pub enabled_here : (event : CoreEvent) → IsEnabled plan (now given) event → IsEnabled course.plan (now course) event
    enabled_here event enabled =
        subst (λ (c : CourseState). IsEnabled c.plan (now c) event) (sym view) (subst (λ (p : Plan). IsEnabled p (now given) event) plan_is enabled)

    -- an event that was taken
    pub moves_here : (event : CoreEvent) (new : Core) (items : List CoreEvent) → IsEnabled plan (now given) event → IsCore plan new → new.files.first ≡ old.files.first
        → state_of new ≡ after plan (state_of old) event → items ≡ course.history ++ event ∷ [] → Moves course event old new items
    moves_here event new items enabled kept first state grown = record {
      enabled = enabled_here event enabled;
      is_core = subst (λ (p : Plan). IsCore p new) plan_here kept;
      first = first;
      state = state ∙ ap (λ (p : Plan). after p (state_of old) event) plan_here;
      told = grown;
    }

    -- there is room for an event that is one of those to come
    pub claim_fits : (seat rule : ℕ) → IsEnabled plan (now given) (Claim seat rule) → length course.history < capacity
    claim_fits seat rule enabled =
        let here = enabled_here (Claim seat rule) enabled in
        let cost = claim_costs course.plan (now course) seat rule here (now_reached course old turn ends capacity is rule here.2.pending) in
        let room = is.room in
        omega (arith, room, cost)

  pub stop_fits : (seat : ℕ) (cause : Cause) → seat < 16 → ((now given).seats seat ≡ None → (now given).stopped ≡ None) → length course.history < capacity
  stop_fits seat cause within one =
      let cost = stop_costs course.plan (now course) seat cause within (subst (λ (c : CourseState). (now c).seats seat ≡ None → (now c).stopped ≡ None) (sym view) one) in
      let room = is.room in
      omega (arith, room, cost)

  pub finish_fits : (seat : ℕ) (running : Running) (verdict : Verdict) (written : List (Names × Stamp)) → seat < 16 → (now given).seats seat ≡ Some running → length course.history < capacity
  finish_fits seat running verdict written within here =
      let cost = finish_costs course.plan (now course) seat running verdict written within (subst (λ (c : CourseState). (now c).seats seat ≡ Some running) (sym view) here) in
      let room = is.room in
      omega (arith, room, cost)

-- what a course is seen as once one more event happened
pub seen_more : (course given : CourseState) (event : CoreEvent) (items : List CoreEvent) → course ≡ given → items ≡ course.history ++ event ∷ []
    → record course { history = items } ≡ with_events given (event ∷ [])
seen_more course given event items view grown =
    ap (λ (h : List CoreEvent). record course { history = h }) grown ∙ ap (λ (c : CourseState). with_events c (event ∷ [])) view

pub seen_same : (course given : CourseState) (items : List CoreEvent) → course ≡ given → items ≡ course.history → record course { history = items } ≡ given
seen_same course given items view same = ap (λ (h : List CoreEvent). record course { history = h }) same ∙ view

-- where a seat that runs nothing isn't one at which all is stopped, nothing is
pub going_at : (course : CourseState) (seat : ℕ) → (IsStopped course seat → ⊥) → (now course).seats seat ≡ None → (now course).stopped ≡ None
going_at course seat goes none = by (now course).stopped refl
  where
    by : (why : Option Cause) → (now course).stopped ≡ why → (now course).stopped ≡ None
    by None is = is
    by (Some cause) is = absurd (goes (none, ap is_some is))
