use Rattle.std.proofs.Common.{◌≡◌, ◌+◌, ℕ, List, take, drop, sym, subst}
use Rattle.tup_core.specs.declared.event.CoreEvent.{CoreEvent}
use Rattle.tup_core.specs.declared.event.CoreEvent.TheVariants.{Claim}
use Rattle.tup_core.specs.Run.{claims}
use Rattle.std.specs.Prelude.{get_or}
use Rattle.tup_update.proofs.Taking.{IsTaking, passed_next, taken_next, waits_next}
use Rattle.tup_update.proofs.by_rule.ByRule.claimed.Goals.{in-Claim, in_default}
use Rattle.tup_update.proofs.by_rule.ByRule.claimed.Goals as goal

-- the event is this claim
claimed_at : (history : List CoreEvent) (k : ℕ) (event : CoreEvent) (seat number : ℕ) → event ≡ get_or history k event → event ≡ Claim seat number → Claim seat number ≡ get_or history k (Claim seat number)
claimed_at history k event seat number at is = subst (λ (e : CoreEvent). e ≡ get_or history k e) is at

pub begin-requires-clause-named : goal.begin-requires-clause-named
begin-requires-clause-named g c =
    let at = claimed_at c.args.history.now c.loop-event.event-index c.event-item.result c.in-Claim.seat c.in-Claim.rule c.event-item.is c.in-Claim.is in
    waits_next c.args.self c.loop-event.self c.args.history.now c.loop-event.event-index c.loop-event-test.true c.loop-event.invariant c.in-Claim.seat c.in-Claim.rule at

pub loop-event-preserved : goal.loop-event-preserved
loop-event-preserved g c =
    let history = c.args.history.now in
    let k = c.loop-event.event-index in
    elim c.match-event.branch [
      | in-Claim w ↦
          let at = claimed_at history k c.event-item.result w.in-Claim.seat w.in-Claim.rule c.event-item.is w.in-Claim.is in
          subst (IsTaking c.args.self (claims (take (k + 1) history)) (claims (drop (k + 1) history))) (sym w.self-is)
          (taken_next c.args.self c.loop-event.self history k c.loop-event-test.true c.loop-event.invariant w.in-Claim.seat w.in-Claim.rule at w.begin.new.self w.begin.ensures.room w.begin.ensures.begun w.begin.ensures.others)
      | in_default w ↦
          subst (IsTaking c.args.self (claims (take (k + 1) history)) (claims (drop (k + 1) history))) (sym w.self-is)
          (passed_next c.args.self c.loop-event.self history k c.loop-event-test.true c.loop-event.invariant c.event-item.result c.event-item.is w.in_default.not-Claim)
    ]
