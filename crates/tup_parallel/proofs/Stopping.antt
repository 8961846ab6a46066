-- Where an update is stopped, it was by one of its events.
use Rattle.std.proofs.Common.{◌≡◌, ◌≢◌, ◌⊎◌, ℕ, zero, suc, Bool, true, false, List, [], ◌∷◌, Option, None, Some, sym, ap, subst, inl, inr, ⊎_elim, arith}
use Rattle.std.specs.Prelude.{Contains, if◌then◌else◌, unwrap_or}
use Rattle.std.proofs.lemmas.List.Elements.{Contains-append_right}
use Rattle.std.proofs.lemmas.Option.{none-some, same_Some}
use Rattle.tup_path.specs.Name.{Names}
use Rattle.tup_stamp.specs.declared.Stamp.{Stamp}
use Rattle.tup_access.specs.declared.verdict.Verdict.{Verdict}
use Rattle.tup_access.specs.declared.verdict.Verdict.TheVariants.{Good, Failed, IllegalRead, IllegalWrite, Unwritten, TooManyReads}
use Rattle.tup_core.specs.declared.event.Cause.{Cause}
use Rattle.tup_core.specs.declared.event.Cause.TheVariants.{Bad}
use Rattle.tup_core.specs.declared.event.CoreEvent.{CoreEvent}
use Rattle.tup_core.specs.declared.event.CoreEvent.TheVariants.{Claim, Ask, Deny, Finish, Stop}
use Rattle.tup_core.specs.declared.plan.Plan.{Plan}
use Rattle.tup_core.specs.declared.running.Running.{Running}
use Rattle.tup_core.specs.Run.{end_of}
use Rattle.tup_core.specs.Step.{State, after, emptied, ended, finished}
use Rattle.tup_lock.proofs.Going.{end_going}

module _ (plan : Plan) where
  -- ---- an event that isn't a stop has stopped all only for a bad verdict
  bad_stops : (keeps : Bool) (was : Option Cause) (cause : Cause) → (if keeps then was else Some (unwrap_or was Bad)) ≡ Some cause → (was ≡ Some cause) ⊎ (cause ≡ Bad)
  bad_stops true was cause is = inl is
  bad_stops false None cause is = inr (sym (same_Some _ _ is))
  bad_stops false (Some first) cause is = inl is

  ended_stops : (before : State) (at : ℕ) (verdict : Verdict) (written : List (Names × Stamp)) (cause : Cause) → (ended plan before at verdict written).stopped ≡ Some cause → (before.stopped ≡ Some cause) ⊎ (cause ≡ Bad)
  ended_stops before at Good written cause is = inl is
  ended_stops before at (Failed status) written cause is = bad_stops plan.keep_going before.stopped cause is
  ended_stops before at (IllegalRead text) written cause is = bad_stops plan.keep_going before.stopped cause is
  ended_stops before at (IllegalWrite text) written cause is = bad_stops plan.keep_going before.stopped cause is
  ended_stops before at (Unwritten path) written cause is = bad_stops plan.keep_going before.stopped cause is
  ended_stops before at TooManyReads written cause is = bad_stops plan.keep_going before.stopped cause is

  finished_stops : (before : State) (seat : ℕ) (runs : Option Running) (verdict : Verdict) (written : List (Names × Stamp)) (cause : Cause) → (finished plan before seat runs verdict written).stopped ≡ Some cause
      → (before.stopped ≡ Some cause) ⊎ (cause ≡ Bad)
  finished_stops before seat None verdict written cause is = inl is
  finished_stops before seat (Some running) verdict written cause is = ended_stops (emptied before seat) running.rule verdict written cause is

  -- the first cause stays
  stop_stops : (was : Option Cause) (seat : ℕ) (given cause : Cause) → Some (unwrap_or was given) ≡ Some cause → (was ≡ Some cause) ⊎ (Stop seat given ≡ Stop seat cause)
  stop_stops None seat given cause is = inr (ap (λ (c : Cause). Stop seat c) (same_Some _ _ is))
  stop_stops (Some first) seat given cause is = inl is

  after_stops : (before : State) (event : CoreEvent) (cause : Cause) → (after plan before event).stopped ≡ Some cause → cause ≢ Bad → (before.stopped ≡ Some cause) ⊎ ((seat : ℕ) × (event ≡ Stop seat cause))
  after_stops before (Claim seat rule) cause is other = inl is
  after_stops before (Ask seat text answer) cause is other = inl is
  after_stops before (Deny seat text verdict) cause is other = inl is
  after_stops before (Finish seat verdict written) cause is other = ⊎_elim inl (λ bad. absurd (other bad)) (finished_stops before seat (before.seats seat) verdict written cause is)
  after_stops before (Stop seat given) cause is other = ⊎_elim inl (λ same. inr (seat, same)) (stop_stops before.stopped seat given cause is)

  -- ---- some events
  -- a cause beside a bad verdict was there before, or is that of a stop among them
  pub stop_among : (events : List CoreEvent) (before : State) (cause : Cause) → (end_of plan before events).stopped ≡ Some cause → cause ≢ Bad → (before.stopped ≡ Some cause) ⊎ ((seat : ℕ) × Contains events (Stop seat cause))
  stop_among [] before cause is other = inl is
  stop_among (event ∷ events) before cause is other =
      ⊎_elim
      (λ here. ⊎_elim inl (λ first. inr (first.0, (0, omega arith, first.1))) (after_stops before event cause here other))
      (λ later. inr (later.0, Contains-append_right (event ∷ []) events (Stop later.0 cause) later.1))
      (stop_among events (after plan before event) cause is other)

  -- where nothing is stopped after them, none of them is a stop
  pub none_stops : (events : List CoreEvent) (before : State) → (end_of plan before events).stopped ≡ None → (seat : ℕ) (cause : Cause) → Contains events (Stop seat cause) → ⊥
  none_stops [] before going seat cause (k, less, is) = absurd (omega arith)
  none_stops (event ∷ events) before going seat cause (zero, less, is) =
      none-some (unwrap_or before.stopped cause) (sym (subst (λ (e : CoreEvent). (after plan before e).stopped ≡ None) is (end_going plan events (after plan before event) going)))
  none_stops (event ∷ events) before going seat cause (suc k, less, is) = none_stops events (after plan before event) going seat cause (k, omega arith, is)
