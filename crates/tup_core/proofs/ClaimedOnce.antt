-- In a run each rule is claimed at most once, and only rules of the reach are.
use Rattle.std.proofs.Common.{◌≡◌, ℕ, zero, suc, Bool, true, false, List, [], ◌∷◌, get_or, refl, sym, ap, ◌∙◌}
use Rattle.std.specs.Prelude.{nat_eq, ◌==◌, All}
use Rattle.std.specs.List.{IsDistinct, AllByRecursion}
use Rattle.std.proofs.lemmas.Bool.{true≢false, eqb-true}
use Rattle.std.proofs.lemmas.Option.{same_Some, none-some, slice_get-get_or}
use Rattle.tup_path.specs.Name.{Names}
use Rattle.tup_stamp.specs.declared.Stamp.{Stamp}
use Rattle.tup_core.specs.declared.event.CoreEvent.{CoreEvent}
use Rattle.tup_core.specs.declared.event.CoreEvent.TheVariants.{Claim, Ask, Deny, Finish, Stop}
use Rattle.tup_core.specs.declared.plan.Plan.{Plan}
use Rattle.tup_core.specs.Step.{State, opening, is_reached, after}
use Rattle.tup_core.specs.Run.{IsRun, claims}
use Rattle.tup_core.specs.Laws.{IsClaimed}
use Rattle.tup_core.proofs.Changed.{changed_here}
use Rattle.tup_core.proofs.Orderly.{pending_shrinks, claimed_stays}

-- a number that isn't the other
apart_test : (at other : ℕ) (b : Bool) → (at == other) ≡ b → (at ≡ other → ⊥) → b ≡ false
apart_test at other true test apart = absurd (apart (eqb-true at other test))
apart_test at other false test apart = refl

-- a rule that was claimed isn't claimed again
pub not_again : (plan : Plan) (events : List CoreEvent) (state : State) (at : ℕ) → IsRun plan state events → state.claimed at ≡ true → AllByRecursion (λ other. nat_eq at other ≡ false) (claims events)
not_again plan [] state at run claimed = tt
not_again plan (Claim seat rule ∷ events) state at (enabled, run) claimed = (
  apart_test at rule (at == rule) refl (λ same. true≢false (sym claimed ∙ ap state.claimed same ∙ enabled.2.unclaimed)),
  not_again plan events (after plan state (Claim seat rule)) at run (claimed_stays plan state (Claim seat rule) enabled at claimed),
)
not_again plan (Ask seat text answer ∷ events) state at (enabled, run) claimed = not_again plan events (after plan state (Ask seat text answer)) at run claimed
not_again plan (Deny seat text verdict ∷ events) state at (enabled, run) claimed = not_again plan events (after plan state (Deny seat text verdict)) at run claimed
not_again plan (Finish seat verdict written ∷ events) state at (enabled, run) claimed =
    not_again plan events (after plan state (Finish seat verdict written)) at run (claimed_stays plan state (Finish seat verdict written) enabled at claimed)
not_again plan (Stop seat cause ∷ events) state at (enabled, run) claimed = not_again plan events (after plan state (Stop seat cause)) at run claimed

pub claimed_once : (plan : Plan) (events : List CoreEvent) (state : State) → IsRun plan state events → IsDistinct nat_eq (claims events)
unfolding IsDistinct
claimed_once plan [] state run = tt
claimed_once plan (Claim seat rule ∷ events) state (enabled, run) =
    let next = after plan state (Claim seat rule) in
    (not_again plan events next rule run (changed_here state.claimed rule true), claimed_once plan events next run)
claimed_once plan (Ask seat text answer ∷ events) state (enabled, run) = claimed_once plan events (after plan state (Ask seat text answer)) run
claimed_once plan (Deny seat text verdict ∷ events) state (enabled, run) = claimed_once plan events (after plan state (Deny seat text verdict)) run
claimed_once plan (Finish seat verdict written ∷ events) state (enabled, run) = claimed_once plan events (after plan state (Finish seat verdict written)) run
claimed_once plan (Stop seat cause ∷ events) state (enabled, run) = claimed_once plan events (after plan state (Stop seat cause)) run

-- what is claimed was pending at the start
pub claim_waits : (plan : Plan) (events : List CoreEvent) (state : State) → IsRun plan state events → (place at : ℕ) → IsClaimed events place at → state.pending at ≡ true
claim_waits plan [] state run place at is = absurd (none-some at is)
claim_waits plan (Claim seat rule ∷ events) state (enabled, run) zero at is = ap state.pending (sym (same_Some rule at is)) ∙ enabled.2.pending
claim_waits plan (Claim seat rule ∷ events) state (enabled, run) (suc place) at is = claim_waits plan events (after plan state (Claim seat rule)) run place at is
claim_waits plan (Ask seat text answer ∷ events) state (enabled, run) place at is = claim_waits plan events (after plan state (Ask seat text answer)) run place at is
claim_waits plan (Deny seat text verdict ∷ events) state (enabled, run) place at is = claim_waits plan events (after plan state (Deny seat text verdict)) run place at is
claim_waits plan (Finish seat verdict written ∷ events) state (enabled, run) place at is =
    pending_shrinks plan state (Finish seat verdict written) enabled at (claim_waits plan events (after plan state (Finish seat verdict written)) run place at is)
claim_waits plan (Stop seat cause ∷ events) state (enabled, run) place at is = claim_waits plan events (after plan state (Stop seat cause)) run place at is

pub claimed_reached : (plan : Plan) (files : List (Names × Stamp)) (events : List CoreEvent) → IsRun plan (opening plan files) events → All (λ at. is_reached plan at ≡ true) (claims events)
claimed_reached plan files events run = λ k d below.
    claim_waits plan events (opening plan files) run k (get_or (claims events) k d) (slice_get-get_or (claims events) k d below)
