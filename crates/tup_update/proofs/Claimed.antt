-- What each seat claimed last, as a history is walked: the rule that the seat runs, where it runs one.
use Rattle.std.proofs.Common.{◌≡◌, ◌<◌, ℕ, List, [], length, length-set, get_or-set_other, get_or-set_same, slice_set, Option, Some, None, ⊎_elim, refl, sym, ap, subst, ◌∙◌}
use Rattle.std.proofs.lemmas.Option.{none-some, same_Some}
use Rattle.tup_path.specs.Name.{Names}
use Rattle.tup_stamp.specs.declared.Stamp.{Stamp}
use Rattle.tup_access.specs.declared.verdict.Verdict.{Verdict}
use Rattle.tup_core.specs.declared.event.CoreEvent.{CoreEvent}
use Rattle.tup_core.specs.declared.event.CoreEvent.TheVariants.{Claim, Ask, Deny, Finish, Stop}
use Rattle.tup_core.specs.declared.plan.Plan.{Plan}
use Rattle.tup_core.specs.declared.running.Running.{Running}
use Rattle.tup_core.specs.Step.{IsEnabled, State, after, asked, changed, emptied, opening, refused}
use Rattle.tup_core.proofs.Changed.{changed_cases}
use Rattle.tup_core.proofs.Orderly.{RanBefore, finished_is, same_rule, seat_emptied, seats_ended}
use Rattle.tup_update.specs.Ended.{claimed_by, nothing_claimed}

-- a list has of each seat what it claimed last, where it runs a rule
pub record Knows (claimed : List (Option ℕ)) (state : State) : Type 0 where
  pub long : length claimed ≡ 16
  pub each : (seat : ℕ) (it : Running) → state.seats seat ≡ Some it → claimed_by claimed seat ≡ Some it.rule

-- what it has after an event
abbrev pub claimed_after : List (Option ℕ) → CoreEvent → List (Option ℕ)
claimed_after claimed (Claim seat number) = slice_set claimed seat (Some number)
claimed_after claimed (Ask seat text answer) = claimed
claimed_after claimed (Deny seat text verdict) = claimed
claimed_after claimed (Finish seat verdict writes) = claimed
claimed_after claimed (Stop seat cause) = claimed

pub knows_none : (plan : Plan) (files : List (Names × Stamp)) → Knows nothing_claimed (opening plan files)
knows_none plan files = record { long = refl; each = λ seat it here. absurd (none-some it here) }

-- the seats of a command that ended are those of before, without it
pub seats_finished : (plan : Plan) (state : State) (seat : ℕ) (it : Running) (verdict : Verdict) (writes : List (Names × Stamp)) → state.seats seat ≡ Some it
    → (after plan state (Finish seat verdict writes)).seats ≡ changed state.seats seat None
seats_finished plan state seat it verdict writes here =
    ap (λ (s : State). s.seats) (finished_is plan state seat it verdict writes here) ∙ seats_ended plan (emptied state seat) it.rule verdict writes

-- where each seat runs no other rule than before, it is known still
knows_on : (claimed : List (Option ℕ)) (old new : State) → RanBefore old new → Knows claimed old → Knows claimed new
knows_on claimed old new ran knows = record {
  long = knows.long;
  each = λ seat it here. let was = ran seat it here in knows.each seat was.0 was.1 ∙ ap (λ (n : ℕ). Some n) was.2;
}

knows_claim : (plan : Plan) (state : State) (claimed : List (Option ℕ)) (seat number : ℕ) → seat < 16 → Knows claimed state → Knows (slice_set claimed seat (Some number)) (after plan state (Claim seat number))
knows_claim plan state claimed seat number below knows = record {
  long = length-set claimed seat (Some number) ∙ knows.long;
  each = λ other it here. ⊎_elim
      (λ same.
      subst (λ (n : ℕ). claimed_by (slice_set claimed seat (Some number)) n ≡ Some it.rule) (sym same.0)
      (get_or-set_same claimed seat (Some number) None within ∙ ap (λ (r : Running). Some r.rule) (same_Some begun it (sym same.1 ∙ here))))
      (λ apart. get_or-set_other claimed seat other (Some number) None apart.0 ∙ knows.each other it (sym apart.1 ∙ here))
      (changed_cases state.seats seat (Some begun) other);
}
  where
    begun : Running
    begun = record { rule = number; asks = []; denied = None }

    within : seat < length claimed
    within = subst (λ (n : ℕ). seat < n) (sym knows.long) below

-- so it is after each event that may happen
pub knows_after : (plan : Plan) (state : State) (claimed : List (Option ℕ)) (event : CoreEvent) → IsEnabled plan state event → Knows claimed state → Knows (claimed_after claimed event) (after plan state event)
knows_after plan state claimed (Claim seat number) enabled knows = knows_claim plan state claimed seat number enabled.0 knows
knows_after plan state claimed (Ask seat text answer) enabled knows =
    let new = after plan state (Ask seat text answer) in
    knows_on claimed state new (same_rule state new seat (asked text answer) (λ one. refl) refl) knows
knows_after plan state claimed (Deny seat text verdict) enabled knows =
    let new = after plan state (Deny seat text verdict) in
    knows_on claimed state new (same_rule state new seat (refused text verdict) (λ one. refl) refl) knows
knows_after plan state claimed (Finish seat verdict writes) (it, rule, runs, fits) knows =
    let new = after plan state (Finish seat verdict writes) in
    knows_on claimed state new (λ other now here. (now, (seat_emptied state new seat (seats_finished plan state seat it verdict writes runs.here) other now here).1, refl)) knows
knows_after plan state claimed (Stop seat cause) enabled knows =
    let new = after plan state (Stop seat cause) in
    knows_on claimed state new (λ other now here. (now, (seat_emptied state new seat refl other now here).1, refl)) knows
