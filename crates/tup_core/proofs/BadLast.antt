-- Where one seat alone makes the claims, and the plan doesn't keep going, a bad rule is the last one that was claimed.
use Rattle.std.proofs.Common.{◌≡◌, ◌≢◌, ℕ, ◌⊎◌, false, List, [], ◌∷◌, ◌++◌, Option, None, Some, refl, sym, ap, ◌∙◌, subst, inl, inr}
use Rattle.std.specs.Prelude.{All, if◌then◌else◌, unwrap_or}
use Rattle.std.proofs.lemmas.Option.{same_Some, none-some}
use Rattle.std.proofs.lemmas.List.Elements.{All-head, All-tail}
use Rattle.tup_path.specs.Name.{Names}
use Rattle.tup_stamp.specs.declared.Stamp.{Stamp}
use Rattle.tup_access.specs.declared.verdict.Verdict.{Verdict}
use Rattle.tup_access.specs.declared.verdict.Verdict.TheVariants.{Good, Failed, IllegalRead, IllegalWrite, Unwritten, TooManyReads}
use Rattle.tup_core.specs.declared.event.Cause.TheVariants.{Bad}
use Rattle.tup_core.specs.declared.event.CoreEvent.{CoreEvent}
use Rattle.tup_core.specs.declared.event.CoreEvent.TheVariants.{Claim, Ask, Deny, Finish, Stop}
use Rattle.tup_core.specs.declared.plan.Plan.{Plan}
use Rattle.tup_core.specs.declared.running.Running.{Running}
use Rattle.tup_core.specs.Step.{State, changed, opening, IsEnabled, asked, refused, emptied, stopped_by, ended, after}
use Rattle.tup_core.specs.Run.{IsRun, end_of, claims, seat_of}
use Rattle.tup_core.proofs.Changed.{changed_cases}
use Rattle.tup_core.proofs.Orderly.{RanBefore, finished_is, same_rule, seat_emptied, seats_ended}

-- a bad rule has stopped all
abbrev BadStops : State → Type 0
BadStops state = (at : ℕ) (given : Verdict) → state.bad at ≡ Some given → state.stopped ≢ None

-- a seat runs the rule at a place
abbrev RunsAt : State → ℕ → ℕ → Type 0
RunsAt state seat at = (running : Running) × (state.seats seat ≡ Some running) × (running.rule ≡ at)

-- a rule that is bad after some events was so before or was running, and then nothing was claimed since, or it was claimed last
abbrev IsLast : State → ℕ → List CoreEvent → ℕ → Type 0
IsLast state seat events at =
    (((given : Verdict) × (state.bad at ≡ Some given)) × (claims events ≡ [])) ⊎ (RunsAt state seat at × (claims events ≡ []))
    ⊎ ((front : List ℕ) × (claims events ≡ front ++ at ∷ []))

-- ---- what an event leaves

noted : (state : State) (place : ℕ) (verdict : Verdict) (at : ℕ) (given : Verdict) → changed state.bad place (Some verdict) at ≡ Some given → (at ≡ place) ⊎ (state.bad at ≡ Some given)
noted state place verdict at given is = elim (changed_cases state.bad place (Some verdict) at) [ inl here ↦ inl here.0 | inr there ↦ inr (sym there.1 ∙ is) ]

bad_cases : (plan : Plan) (state : State) (place : ℕ) (verdict : Verdict) (written : List (Names × Stamp)) (at : ℕ) (given : Verdict) → (ended plan state place verdict written).bad at ≡ Some given →
    (at ≡ place) ⊎ (state.bad at ≡ Some given)
bad_cases plan state place Good written at given is = inr is
bad_cases plan state place (Failed status) written at given is = noted state place (Failed status) at given is
bad_cases plan state place (IllegalRead text) written at given is = noted state place (IllegalRead text) at given is
bad_cases plan state place (IllegalWrite text) written at given is = noted state place (IllegalWrite text) at given is
bad_cases plan state place (Unwritten path) written at given is = noted state place (Unwritten path) at given is
bad_cases plan state place TooManyReads written at given is = noted state place TooManyReads at given is

module _ (plan : Plan) (off : plan.keep_going ≡ false) where
  stopped_now : (state : State) → (if plan.keep_going then state.stopped else stopped_by state Bad) ≢ None
  stopped_now state none = none-some (unwrap_or state.stopped Bad) (sym none ∙ rw off refl)

  ended_stops : (state : State) (place : ℕ) (verdict : Verdict) (written : List (Names × Stamp)) → BadStops state → BadStops (ended plan state place verdict written)
  ended_stops state place Good written stops = stops
  ended_stops state place (Failed status) written stops = λ at given is. stopped_now state
  ended_stops state place (IllegalRead text) written stops = λ at given is. stopped_now state
  ended_stops state place (IllegalWrite text) written stops = λ at given is. stopped_now state
  ended_stops state place (Unwritten path) written stops = λ at given is. stopped_now state
  ended_stops state place TooManyReads written stops = λ at given is. stopped_now state

  stops_after : (state : State) (event : CoreEvent) → BadStops state → IsEnabled plan state event → BadStops (after plan state event)
  stops_after state (Claim seat rule) stops enabled = stops
  stops_after state (Ask seat text answer) stops enabled = stops
  stops_after state (Deny seat text verdict) stops enabled = stops
  stops_after state (Finish seat verdict written) stops (running, rule, runs, fits) =
      subst (λ (s : State). BadStops s) (sym (finished_is plan state seat running verdict written runs.here)) (ended_stops (emptied state seat) running.rule verdict written stops)
  stops_after state (Stop seat cause) stops enabled = λ at given is none. none-some (unwrap_or state.stopped cause) (sym none)

  -- ---- back over an event

  -- over one that claims nothing and ends nothing badly
  passes : (old new : State) (seat : ℕ) (events : List CoreEvent) (at : ℕ) → new.bad ≡ old.bad → RanBefore old new → IsLast new seat events at → IsLast old seat events at
  passes old new seat events at same ran (inl ((given, is), none)) = inl ((given, ap (λ (b : ℕ → Option Verdict). b at) (sym same) ∙ is), none)
  passes old new seat events at same ran (inr (inl ((running, here, is), none))) =
      let was = ran seat running here in
      inr (inl ((was.0, was.1, was.2 ∙ is), none))
  passes old new seat events at same ran (inr (inr (front, are))) = inr (inr (front, are))

  -- over a claim
  over_claim : (state : State) (one first seat : ℕ) (events : List CoreEvent) (at : ℕ) → one ≡ seat → BadStops state → IsEnabled plan state (Claim one first) → IsLast (after plan state (Claim one first)) seat events at →
      IsLast state seat (Claim one first ∷ events) at
  over_claim state one first seat events at own stops enabled (inl ((given, is), none)) = absurd (stops at given is enabled.2.going)
  over_claim state one first seat events at own stops enabled (inr (inl ((running, here, is), none))) =
      elim (changed_cases state.seats one (Some (record { rule = first; asks = []; denied = None })) seat) [
        | inr apart ↦ absurd (apart.0 (sym own))
        | inl same ↦
            let claimed : first ≡ at = ap (λ (r : Running). r.rule) (same_Some _ _ (sym same.1 ∙ here)) ∙ is in
            inr (inr ([], ap (λ (more : List ℕ). first ∷ more) none ∙ ap (λ (n : ℕ). n ∷ []) claimed))
      ]
  over_claim state one first seat events at own stops enabled (inr (inr (front, are))) = inr (inr (first ∷ front, ap (λ (more : List ℕ). first ∷ more) are))

  -- over the end of a command
  over_end : (state : State) (one seat : ℕ) (running : Running) (verdict : Verdict) (written : List (Names × Stamp)) (events : List CoreEvent) (at : ℕ) → one ≡ seat → state.seats one ≡ Some running →
      IsLast (ended plan (emptied state one) running.rule verdict written) seat events at → IsLast state seat events at
  over_end state one seat running verdict written events at own ran (inl ((given, is), none)) =
      elim (bad_cases plan (emptied state one) running.rule verdict written at given is) [
        | inl itself ↦ inr (inl ((running, ap state.seats (sym own) ∙ ran, sym itself), none))
        | inr before ↦ inl ((given, before), none)
      ]
  over_end state one seat running verdict written events at own ran (inr (inl ((another, here, is), none))) =
      inr (inl ((another, (seat_emptied state (ended plan (emptied state one) running.rule verdict written) one (seats_ended plan (emptied state one) running.rule verdict written) seat another here).1, is), none))
  over_end state one seat running verdict written events at own ran (inr (inr (front, are))) = inr (inr (front, are))

  -- ---- a whole run

  module _ (seat : ℕ) where
    abbrev Own : CoreEvent → Type 0
    Own event = seat_of event ≡ seat

    run_last : (events : List CoreEvent) (state : State) → BadStops state → All Own events → IsRun plan state events → (at : ℕ) (given : Verdict) → (end_of plan state events).bad at ≡ Some given → IsLast state seat events at
    run_last [] state stops own run at given is = inl ((given, is), refl)
    run_last (Claim one first ∷ events) state stops own (enabled, run) at given is =
        over_claim state one first seat events at (All-head Own (Claim one first) events own) stops enabled
        (run_last events (after plan state (Claim one first)) stops (All-tail Own (Claim one first) events own) run at given is)
    run_last (Ask one text answer ∷ events) state stops own (enabled, run) at given is =
        passes state (after plan state (Ask one text answer)) seat events at refl (same_rule state (after plan state (Ask one text answer)) one (asked text answer) (λ running. refl) refl)
        (run_last events (after plan state (Ask one text answer)) stops (All-tail Own (Ask one text answer) events own) run at given is)
    run_last (Deny one text verdict ∷ events) state stops own (enabled, run) at given is =
        passes state (after plan state (Deny one text verdict)) seat events at refl (same_rule state (after plan state (Deny one text verdict)) one (refused text verdict) (λ running. refl) refl)
        (run_last events (after plan state (Deny one text verdict)) stops (All-tail Own (Deny one text verdict) events own) run at given is)
    run_last (Finish one verdict written ∷ events) state stops own (enabled, run) at given is =
        over_end state one seat enabled.0 verdict written events at (All-head Own (Finish one verdict written) events own) enabled.2.here
        (subst (λ (s : State). IsLast s seat events at) (finished_is plan state one enabled.0 verdict written enabled.2.here)
        (run_last events (after plan state (Finish one verdict written)) (stops_after state (Finish one verdict written) stops enabled) (All-tail Own (Finish one verdict written) events own) run at given is))
    run_last (Stop one cause ∷ events) state stops own (enabled, run) at given is =
        passes state (after plan state (Stop one cause)) seat events at refl (λ other running now. (running, (seat_emptied state (after plan state (Stop one cause)) one refl other running now).1, refl))
        (run_last events (after plan state (Stop one cause)) (stops_after state (Stop one cause) stops enabled) (All-tail Own (Stop one cause) events own) run at given is)

pub bad_is_last : (plan : Plan) (files : List (Names × Stamp)) (events : List CoreEvent) (seat : ℕ) → IsRun plan (opening plan files) events → All (λ event. seat_of event ≡ seat) events → plan.keep_going ≡ false →
    (at : ℕ) (given : Verdict) → (end_of plan (opening plan files) events).bad at ≡ Some given → (front : List ℕ) × (claims events ≡ front ++ at ∷ [])
bad_is_last plan files events seat run own off at given is =
    found (run_last plan off seat events (opening plan files) (λ other verdict bad. absurd (none-some verdict bad)) own run at given is)
  where
    found : IsLast (opening plan files) seat events at → (front : List ℕ) × (claims events ≡ front ++ at ∷ [])
    found (inl ((verdict, bad), none)) = absurd (none-some verdict bad)
    found (inr (inl ((running, here, at_it), none))) = absurd (none-some running here)
    found (inr (inr last)) = last
