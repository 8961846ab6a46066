-- In a run each declared producer of a claimed rule that is to be run is claimed before it.
use Rattle.std.proofs.Common.{◌≡◌, ℕ, zero, suc, ◌<◌, ◌⊎◌, Bool, true, List, [], ◌∷◌, Some, refl, sym, ap, ◌∙◌, subst, inl, inr, arith}
use Rattle.std.specs.Prelude.{slice_get}
use Rattle.std.proofs.lemmas.Bool.{true≢false, false≢true}
use Rattle.std.proofs.lemmas.Option.{same_Some, none-some}
use Rattle.tup_path.specs.Name.{Names}
use Rattle.tup_stamp.specs.declared.Stamp.{Stamp}
use Rattle.tup_rule.specs.declared.rule.Rule.{Rule}
use Rattle.tup_rule.specs.Producer.{DeclaredProducer}
use Rattle.tup_core.specs.declared.event.CoreEvent.{CoreEvent}
use Rattle.tup_core.specs.declared.event.CoreEvent.TheVariants.{Claim, Ask, Deny, Finish, Stop}
use Rattle.tup_core.specs.declared.plan.Plan.{Plan}
use Rattle.tup_core.specs.Step.{State, opening, is_reached, IsClear, IsReady, emptied, after}
use Rattle.tup_core.specs.Run.{IsRun}
use Rattle.tup_core.specs.Laws.{IsClaimed}
use Rattle.tup_core.proofs.Changed.{changed_cases}
use Rattle.tup_core.proofs.Orderly.{IsOrderly, orderly_after, orderly_opening, finished_is, claimed_ended}
use Rattle.tup_core.proofs.ClaimedOnce.{claim_waits}
use Rattle.tup_core.proofs.AllClaimed.{IsSpent, spent_opening, spent_after}

-- the producers of a ready rule aren't pending
ready_clear : (plan : Plan) (state : State) (at : ℕ) (rule : Rule) → IsReady plan state at → slice_get plan.rules at ≡ Some rule → IsClear plan state rule
ready_clear plan state at rule ready here other produces =
    ready.clear.2 other (subst (λ (r : Rule). DeclaredProducer plan.rules r other) (same_Some rule ready.clear.0 (sym here ∙ ready.clear.1)) produces)

-- ---- what is claimed of them is claimed before

pub in_order : (plan : Plan) (events : List CoreEvent) (state : State) → IsRun plan state events → (sooner later at other : ℕ) (rule : Rule) → IsClaimed events later at →
    slice_get plan.rules at ≡ Some rule → DeclaredProducer plan.rules rule other → IsClaimed events sooner other → sooner < later
in_order plan [] state run sooner later at other rule is here produces was = absurd (none-some at is)
in_order plan (Claim seat first ∷ events) state (enabled, run) sooner zero at other rule is here produces was =
    absurd (true≢false (
    sym (claim_waits plan (Claim seat first ∷ events) state (enabled, run) sooner other was)
    ∙ ready_clear plan state first rule enabled.2 (ap (slice_get plan.rules) (same_Some first at is) ∙ here) other produces))
in_order plan (Claim seat first ∷ events) state (enabled, run) zero (suc later) at other rule is here produces was = omega arith
in_order plan (Claim seat first ∷ events) state (enabled, run) (suc sooner) (suc later) at other rule is here produces was =
    let before = in_order plan events (after plan state (Claim seat first)) run sooner later at other rule is here produces was in
    omega (arith, before)
in_order plan (Ask seat text answer ∷ events) state (enabled, run) sooner later at other rule is here produces was =
    in_order plan events (after plan state (Ask seat text answer)) run sooner later at other rule is here produces was
in_order plan (Deny seat text verdict ∷ events) state (enabled, run) sooner later at other rule is here produces was =
    in_order plan events (after plan state (Deny seat text verdict)) run sooner later at other rule is here produces was
in_order plan (Finish seat verdict written ∷ events) state (enabled, run) sooner later at other rule is here produces was =
    in_order plan events (after plan state (Finish seat verdict written)) run sooner later at other rule is here produces was
in_order plan (Stop seat cause ∷ events) state (enabled, run) sooner later at other rule is here produces was =
    in_order plan events (after plan state (Stop seat cause)) run sooner later at other rule is here produces was

-- ---- those that are to be run are claimed

-- before a claim of these events, or before all of them
abbrev WasClaimed : State → List CoreEvent → ℕ → ℕ → Type 0
WasClaimed state events later other = (state.claimed other ≡ true) ⊎ ((sooner : ℕ) × (sooner < later) × IsClaimed events sooner other)

-- an event that claims nothing
passes : (old new : State) (events : List CoreEvent) (later other : ℕ) → new.claimed ≡ old.claimed → WasClaimed new events later other → WasClaimed old events later other
passes old new events later other same (inl before) = inl (ap (λ (c : ℕ → Bool). c other) (sym same) ∙ before)
passes old new events later other same (inr sooner) = inr sooner

-- and one that does
claims_one : (plan : Plan) (state : State) (seat first : ℕ) (events : List CoreEvent) (later other : ℕ) → WasClaimed (after plan state (Claim seat first)) events later other →
    WasClaimed state (Claim seat first ∷ events) (suc later) other
claims_one plan state seat first events later other (inl before) =
    elim (changed_cases state.claimed first true other) [
      | inl here ↦ inr (zero, omega arith, ap Some (sym here.0))
      | inr there ↦ inl (sym there.1 ∙ before)
    ]
claims_one plan state seat first events later other (inr (sooner, below, is)) = inr (suc sooner, omega (arith, below), is)

were_claimed : (plan : Plan) (events : List CoreEvent) (state : State) → IsOrderly plan state → IsSpent plan state → IsRun plan state events → (later at other : ℕ) (rule : Rule) → IsClaimed events later at →
    slice_get plan.rules at ≡ Some rule → DeclaredProducer plan.rules rule other → is_reached plan other ≡ true → WasClaimed state events later other
were_claimed plan [] state orderly spent run later at other rule is here produces reached = absurd (none-some at is)
were_claimed plan (Claim seat first ∷ events) state orderly spent (enabled, run) zero at other rule is here produces reached =
    inl (spent.claimed other reached (ready_clear plan state first rule enabled.2 (ap (slice_get plan.rules) (same_Some first at is) ∙ here) other produces))
were_claimed plan (Claim seat first ∷ events) state orderly spent (enabled, run) (suc later) at other rule is here produces reached =
    claims_one plan state seat first events later other
    (were_claimed plan events (after plan state (Claim seat first)) (orderly_after plan state (Claim seat first) orderly enabled)
    (spent_after plan state (Claim seat first) orderly spent enabled) run later at other rule is here produces reached)
were_claimed plan (Ask seat text answer ∷ events) state orderly spent (enabled, run) later at other rule is here produces reached =
    passes state (after plan state (Ask seat text answer)) events later other refl
    (were_claimed plan events (after plan state (Ask seat text answer)) (orderly_after plan state (Ask seat text answer) orderly enabled)
    (spent_after plan state (Ask seat text answer) orderly spent enabled) run later at other rule is here produces reached)
were_claimed plan (Deny seat text verdict ∷ events) state orderly spent (enabled, run) later at other rule is here produces reached =
    passes state (after plan state (Deny seat text verdict)) events later other refl
    (were_claimed plan events (after plan state (Deny seat text verdict)) (orderly_after plan state (Deny seat text verdict) orderly enabled)
    (spent_after plan state (Deny seat text verdict) orderly spent enabled) run later at other rule is here produces reached)
were_claimed plan (Finish seat verdict written ∷ events) state orderly spent (enabled, run) later at other rule is here produces reached =
    passes state (after plan state (Finish seat verdict written)) events later other
    (ap (λ (s : State). s.claimed) (finished_is plan state seat enabled.0 verdict written enabled.2.here) ∙ claimed_ended plan (emptied state seat) enabled.0.rule verdict written)
    (were_claimed plan events (after plan state (Finish seat verdict written)) (orderly_after plan state (Finish seat verdict written) orderly enabled)
    (spent_after plan state (Finish seat verdict written) orderly spent enabled) run later at other rule is here produces reached)
were_claimed plan (Stop seat cause ∷ events) state orderly spent (enabled, run) later at other rule is here produces reached =
    passes state (after plan state (Stop seat cause)) events later other refl
    (were_claimed plan events (after plan state (Stop seat cause)) (orderly_after plan state (Stop seat cause) orderly enabled)
    (spent_after plan state (Stop seat cause) orderly spent enabled) run later at other rule is here produces reached)

pub producers_claimed : (plan : Plan) (files : List (Names × Stamp)) (events : List CoreEvent) → IsRun plan (opening plan files) events → (later at other : ℕ) (rule : Rule) → IsClaimed events later at →
    slice_get plan.rules at ≡ Some rule → DeclaredProducer plan.rules rule other → is_reached plan other ≡ true → (sooner : ℕ) × (sooner < later) × IsClaimed events sooner other
producers_claimed plan files events run later at other rule is here produces reached =
    elim (were_claimed plan events (opening plan files) (orderly_opening plan files) (spent_opening plan files) run later at other rule is here produces reached) [
      | inl before ↦ absurd (false≢true before)
      | inr sooner ↦ sooner
    ]
