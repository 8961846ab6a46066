-- No run comes to a state in which a rule waits and nothing will ever change that.
use Rattle.std.proofs.Common.{◌≡◌, ℕ, Bool, true, false, List, [], ◌∷◌, Option, None, Some, refl, sym, ap, ◌∙◌, subst, inl, inr}
use Rattle.std.specs.Prelude.{slice_get, if◌then◌else◌, unwrap_or}
use Rattle.std.specs.Option.{option_map}
use Rattle.std.proofs.lemmas.Bool.{true≢false, cases_Bool, false_from_ne_true}
use Rattle.std.proofs.lemmas.Option.{same_Some, none-some}
use Rattle.tup_path.specs.Name.{Names}
use Rattle.tup_stamp.specs.declared.Stamp.{Stamp}
use Rattle.tup_rule.specs.declared.rule.Rule.{Rule}
use Rattle.tup_access.specs.declared.verdict.Verdict.{Verdict}
use Rattle.tup_access.specs.declared.verdict.Verdict.TheVariants.{Good, Failed, IllegalRead, IllegalWrite, Unwritten, TooManyReads}
use Rattle.tup_clean.proofs.Places.{some_place}
use Rattle.tup_core.specs.declared.event.Cause.{Cause}
use Rattle.tup_core.specs.declared.event.Cause.TheVariants.{Bad}
use Rattle.tup_core.specs.declared.event.CoreEvent.{CoreEvent}
use Rattle.tup_core.specs.declared.event.CoreEvent.TheVariants.{Claim, Ask, Deny, Finish, Stop}
use Rattle.tup_core.specs.declared.plan.Plan.{Plan}
use Rattle.tup_core.specs.declared.running.Running.{Running}
use Rattle.tup_core.specs.Step.{State, changed, opening, IsEnabled, asked, refused, emptied, stopped_by, ended, after}
use Rattle.tup_core.specs.Run.{IsRun, end_of}
use Rattle.tup_core.specs.Sound.{IsAcyclic, IsInRange, IsStuck}
use Rattle.tup_clean.proofs.Acyclic.{by_producers}
use Rattle.tup_core.proofs.Changed.{changed_cases, changed_here}
use Rattle.tup_core.proofs.Orderly.{IsOrderly, orderly_after, orderly_opening, finished_is}

-- ---- a claimed rule that is pending is running, or bad, or everything is stopped

-- some seat runs the rule at a place
abbrev pub IsRunning : State → ℕ → Type 0
IsRunning state at = (seat : ℕ) × (running : Running) × (state.seats seat ≡ Some running) × (running.rule ≡ at)

-- what keeps a claimed rule pending
pub data Reason (state : State) (at : ℕ) : Type 0 where
  by_running : IsRunning state at → Reason state at
  by_bad : (verdict : Verdict) → state.bad at ≡ Some verdict → Reason state at
  by_stop : (cause : Cause) → state.stopped ≡ Some cause → Reason state at

pub record IsAccounted (state : State) : Type 0 where
  pub reason : (at : ℕ) → state.claimed at ≡ true → state.pending at ≡ true → Reason state at

-- a seat that goes on keeps its rule running
goes_on : (state : State) (seat at : ℕ) (change : Running → Running) → ((running : Running) → (change running).rule ≡ running.rule) → IsRunning state at →
    (other : ℕ) × (now : Running) × (changed state.seats seat (option_map change (state.seats seat)) other ≡ Some now) × (now.rule ≡ at)
goes_on state seat at change keeps (other, running, here, is) =
    elim (changed_cases state.seats seat (option_map change (state.seats seat)) other) [
      | inl same ↦ (other, change running, same.1 ∙ ap (λ (o : Option Running). option_map change o) (ap state.seats (sym same.0) ∙ here), keeps running ∙ is)
      | inr apart ↦ (other, running, apart.1 ∙ here, is)
    ]

accounted_claim : (plan : Plan) (state : State) (seat rule : ℕ) → IsAccounted state → IsEnabled plan state (Claim seat rule) → IsAccounted (after plan state (Claim seat rule))
accounted_claim plan state seat rule accounted (within, free, ready) = record {
  reason = λ at claimed pending.
      let new = after plan state (Claim seat rule) in
      let fresh : Running = record { rule = rule; asks = []; denied = None } in
      elim (changed_cases state.claimed rule true at) as (λ _. Reason new at) [
        | inl here ↦ by_running (seat, fresh, changed_here state.seats seat (Some fresh), sym here.0)
        | inr there ↦ on at (accounted.reason at (sym there.1 ∙ claimed) pending)
      ];
}
  where
    on : (at : ℕ) → Reason state at → Reason (after plan state (Claim seat rule)) at
    on at (by_running (other, running, here, is)) =
        elim (changed_cases state.seats seat (Some (record { rule = rule; asks = []; denied = None })) other) as (λ _. Reason (after plan state (Claim seat rule)) at) [
          | inl same ↦ absurd (none-some running (sym free ∙ ap state.seats (sym same.0) ∙ here))
          | inr apart ↦ by_running (other, running, apart.1 ∙ here, is)
        ]
    on at (by_bad verdict is) = by_bad verdict is
    on at (by_stop cause is) = by_stop cause is

-- a bad end
bad_end : (plan : Plan) (state : State) (seat : ℕ) (running : Running) (verdict : Verdict) (new : State) → IsAccounted state → state.seats seat ≡ Some running →
    new.claimed ≡ state.claimed → new.pending ≡ state.pending → new.seats ≡ changed state.seats seat None → new.bad ≡ changed state.bad running.rule (Some verdict) →
    ((cause : Cause) → state.stopped ≡ Some cause → (kept : Cause) × (new.stopped ≡ Some kept)) → IsAccounted new
bad_end plan state seat running verdict new accounted ran same_claimed same_pending seats bads stops = record {
  reason = λ at claimed pending.
      on at (accounted.reason at (ap (λ (c : ℕ → Bool). c at) (sym same_claimed) ∙ claimed) (ap (λ (p : ℕ → Bool). p at) (sym same_pending) ∙ pending));
}
  where
    on : (at : ℕ) → Reason state at → Reason new at
    on at (by_running (other, another, here, is)) =
        elim (changed_cases state.seats seat None other) as (λ _. Reason new at) [
          | inl same ↦
              let one : another ≡ running = same_Some _ _ (sym here ∙ ap state.seats same.0 ∙ ran) in
              let number : at ≡ running.rule = sym is ∙ ap (λ (r : Running). r.rule) one in
              by_bad verdict (ap (λ (b : ℕ → Option Verdict). b at) bads ∙ ap (changed state.bad running.rule (Some verdict)) number ∙ changed_here state.bad running.rule (Some verdict))
          | inr apart ↦ by_running (other, another, ap (λ (s : ℕ → Option Running). s other) seats ∙ apart.1 ∙ here, is)
        ]
    on at (by_bad given is) =
        elim (changed_cases state.bad running.rule (Some verdict) at) as (λ _. Reason new at) [
          | inl here ↦ by_bad verdict (ap (λ (b : ℕ → Option Verdict). b at) bads ∙ here.1)
          | inr there ↦ by_bad given (ap (λ (b : ℕ → Option Verdict). b at) bads ∙ there.1 ∙ is)
        ]
    on at (by_stop cause is) = let kept = stops cause is in by_stop kept.0 kept.1

-- what was stopped stays so
still_stopped : (plan : Plan) (state : State) (cause : Cause) → state.stopped ≡ Some cause → (kept : Cause) × ((if plan.keep_going then state.stopped else stopped_by state Bad) ≡ Some kept)
still_stopped plan state cause is =
    elim (cases_Bool plan.keep_going) [
      | inl on ↦ (cause, rw on is)
      | inr off ↦ (unwrap_or state.stopped Bad, rw off refl)
    ]

accounted_ended : (plan : Plan) (state : State) (seat : ℕ) (running : Running) (verdict : Verdict) (written : List (Names × Stamp)) → IsAccounted state → state.seats seat ≡ Some running →
    IsAccounted (ended plan (emptied state seat) running.rule verdict written)
accounted_ended plan state seat running Good written accounted ran = record {
  reason = λ at claimed pending.
      elim (changed_cases state.pending running.rule false at) as (λ _. Reason (ended plan (emptied state seat) running.rule Good written) at) [
        | inl here ↦ absurd (true≢false (sym pending ∙ here.1))
        | inr there ↦ on at there.0 (accounted.reason at claimed (sym there.1 ∙ pending))
      ];
}
  where
    on : (at : ℕ) → (at ≡ running.rule → ⊥) → Reason state at → Reason (ended plan (emptied state seat) running.rule Good written) at
    on at foreign (by_running (other, another, here, is)) =
        elim (changed_cases state.seats seat None other) as (λ _. Reason (ended plan (emptied state seat) running.rule Good written) at) [
          | inl same ↦ absurd (foreign (sym is ∙ ap (λ (r : Running). r.rule) (same_Some _ _ (sym here ∙ ap state.seats same.0 ∙ ran))))
          | inr apart ↦ by_running (other, another, apart.1 ∙ here, is)
        ]
    on at foreign (by_bad given is) = by_bad given is
    on at foreign (by_stop cause is) = by_stop cause is
accounted_ended plan state seat running (Failed status) written accounted ran = bad_end plan state seat running (Failed status) _ accounted ran refl refl refl refl (still_stopped plan state)
accounted_ended plan state seat running (IllegalRead text) written accounted ran = bad_end plan state seat running (IllegalRead text) _ accounted ran refl refl refl refl (still_stopped plan state)
accounted_ended plan state seat running (IllegalWrite text) written accounted ran = bad_end plan state seat running (IllegalWrite text) _ accounted ran refl refl refl refl (still_stopped plan state)
accounted_ended plan state seat running (Unwritten path) written accounted ran = bad_end plan state seat running (Unwritten path) _ accounted ran refl refl refl refl (still_stopped plan state)
accounted_ended plan state seat running TooManyReads written accounted ran = bad_end plan state seat running TooManyReads _ accounted ran refl refl refl refl (still_stopped plan state)

accounted_after : (plan : Plan) (state : State) (event : CoreEvent) → IsAccounted state → IsEnabled plan state event → IsAccounted (after plan state event)
accounted_after plan state (Claim seat rule) accounted enabled = accounted_claim plan state seat rule accounted enabled
accounted_after plan state (Ask seat text answer) accounted enabled = record {
  reason = λ at claimed pending. on at (accounted.reason at claimed pending);
}
  where
    on : (at : ℕ) → Reason state at → Reason (after plan state (Ask seat text answer)) at
    on at (by_running running) = by_running (goes_on state seat at (asked text answer) (λ one. refl) running)
    on at (by_bad verdict is) = by_bad verdict is
    on at (by_stop cause is) = by_stop cause is
accounted_after plan state (Deny seat text verdict) accounted enabled = record {
  reason = λ at claimed pending. on at (accounted.reason at claimed pending);
}
  where
    on : (at : ℕ) → Reason state at → Reason (after plan state (Deny seat text verdict)) at
    on at (by_running running) = by_running (goes_on state seat at (refused text verdict) (λ one. refl) running)
    on at (by_bad given is) = by_bad given is
    on at (by_stop cause is) = by_stop cause is
accounted_after plan state (Finish seat verdict written) accounted (running, rule, ran, fits) =
    subst (λ (s : State). IsAccounted s) (sym (finished_is plan state seat running verdict written ran.here))
    (accounted_ended plan state seat running verdict written accounted ran.here)
accounted_after plan state (Stop seat cause) accounted enabled = record {
  reason = λ at claimed pending. by_stop _ refl;
}

pub accounted_opening : (plan : Plan) (files : List (Names × Stamp)) → IsAccounted (opening plan files)
accounted_opening plan files = record { reason = λ at claimed pending. absurd (true≢false (sym claimed)) }

pub accounted_run : (plan : Plan) (events : List CoreEvent) (state : State) → IsAccounted state → IsRun plan state events → IsAccounted (end_of plan state events)
accounted_run plan [] state accounted run = accounted
accounted_run plan (event ∷ events) state accounted (enabled, run) = accounted_run plan events (after plan state event) (accounted_after plan state event accounted enabled) run

orderly_run : (plan : Plan) (events : List CoreEvent) (state : State) → IsOrderly plan state → IsRun plan state events → IsOrderly plan (end_of plan state events)
orderly_run plan [] state orderly run = orderly
orderly_run plan (event ∷ events) state orderly (enabled, run) = orderly_run plan events (after plan state event) (orderly_after plan state event orderly enabled) run

-- ---- behind each rule that waits would stand another

-- in a stuck state a pending rule was never claimed
unclaimed : (plan : Plan) (state : State) (at : ℕ) → IsAccounted state → IsStuck plan state → state.pending at ≡ true → state.claimed at ≡ false
unclaimed plan state at accounted stuck pending =
    elim (cases_Bool (state.claimed at)) [
      | inr never ↦ never
      | inl claimed ↦ absurd (no_reason (accounted.reason at claimed pending))
    ]
  where
    no_reason : Reason state at → ⊥
    no_reason (by_running (seat, running, here, is)) = none-some running (sym (stuck.quiet.none_runs seat) ∙ here)
    no_reason (by_bad verdict is) = none-some verdict (sym (stuck.none_bad at) ∙ is)
    no_reason (by_stop cause is) = none-some cause (sym stuck.quiet.going ∙ is)

-- so no rule is pending
none_pending : (plan : Plan) (state : State) → IsAcyclic plan.rules → IsAccounted state → IsStuck plan state → (at : ℕ) (rule : Rule) → slice_get plan.rules at ≡ Some rule → state.pending at ≡ true → ⊥
none_pending plan state acyclic accounted stuck at rule here =
    by_producers plan.rules acyclic (λ other. state.pending other ≡ true → ⊥)
    (λ other its there behind waiting. stuck.quiet.none_ready other (record {
      pending = waiting;
      unclaimed = unclaimed plan state other accounted stuck waiting;
      going = stuck.quiet.going;
      clear = (its, there, λ next produced. false_from_ne_true (state.pending next) (behind next produced));
    }))
    at rule here

pub never_stuck : (plan : Plan) (files : List (Names × Stamp)) (events : List CoreEvent) → IsAcyclic plan.rules → IsInRange plan → IsRun plan (opening plan files) events →
    IsStuck plan (end_of plan (opening plan files) events) → ⊥
never_stuck plan files events acyclic range run stuck =
    let state = end_of plan (opening plan files) events in
    let orderly = orderly_run plan events (opening plan files) (orderly_opening plan files) run in
    let accounted = accounted_run plan events (opening plan files) (accounted_opening plan files) run in
    let at = stuck.pending.0 in
    let found = some_place plan.rules at (range at (orderly.reached at stuck.pending.1)) in
    none_pending plan state acyclic accounted stuck at found.0 found.1 stuck.pending.1
