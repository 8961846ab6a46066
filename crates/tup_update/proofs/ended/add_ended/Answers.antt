use Rattle.std.proofs.Common.{◌+◌, ℕ, List, [], ◌∷◌, Option, Some, drop, slice_set, sym, subst, append-nil, ◌∙◌}
use Rattle.std.proofs.lemmas.List.{drop_all}
use Rattle.tup_core.specs.declared.event.CoreEvent.{CoreEvent}
use Rattle.tup_promise.specs.declared.log.EndedRule.{EndedRule}
use Rattle.tup_update.proofs.Taking.{next_left}
use Rattle.tup_update.proofs.Telling.{IsTelling, tells_claim, tells_finish, tells_other}
use Rattle.tup_update.proofs.ended.add_ended.Goals.{in-Claim, in-Finish+in_ok-add_verdict-in-Finish, in_default}
use Rattle.tup_update.proofs.ended.add_ended.Goals as goal

pub loop-event-preserved : goal.loop-event-preserved
loop-event-preserved c =
    let rules = c.args.rules.now in
    let old = c.args.ended.now in
    let history = c.args.history.now in
    let k = c.loop-event.event-index in
    let event = c.event-item.result in
    let claimed = c.loop-event.claimed in
    let ended = c.loop-event.ended in
    let rest = drop (k + 1) history in
    let telling : IsTelling rules old history (event ∷ rest) claimed ended =
    subst (λ (left : List CoreEvent). IsTelling rules old history left claimed ended) (next_left history k event c.loop-event-test.true c.event-item.is) c.loop-event.invariant in
    elim c.match-event.branch [
      | in-Claim w ↦
          subst (λ (r : List (Option ℕ)). IsTelling rules old history rest r c.match-event.ended) (sym (w.claimed-is ∙ w.claim_at.ensures))
          (subst (λ (l : List EndedRule). IsTelling rules old history rest (slice_set claimed w.in-Claim.seat (Some w.in-Claim.rule)) l) (sym w.ended-is)
          (tells_claim rules old history rest event claimed ended telling w.in-Claim.seat w.in-Claim.rule w.in-Claim.is))
      | in-Finish+in_ok-add_verdict-in-Finish w ↦
          subst (λ (r : List (Option ℕ)). IsTelling rules old history rest r c.match-event.ended) (sym w.claimed-is)
          (subst (λ (l : List EndedRule). IsTelling rules old history rest claimed l) (sym w.ended-is)
          (tells_finish rules old history rest event claimed ended telling w.in-Finish.seat w.in-Finish.verdict w.in-Finish.writes w.in-Finish.is w.claimed_at.result w.claimed_at.ensures w.add_verdict.new.ended
          w.in_ok-add_verdict-in-Finish.ensures.ok))
      | in_default w ↦
          subst (λ (r : List (Option ℕ)). IsTelling rules old history rest r c.match-event.ended) (sym w.claimed-is)
          (subst (λ (l : List EndedRule). IsTelling rules old history rest claimed l) (sym w.ended-is) (tells_other rules old history rest event claimed ended telling w.in_default.not-Claim w.in_default.not-Finish))
    ]

pub returns-clause-all : goal.returns-clause-all
returns-clause-all c =
    let rules = c.args.rules.now in
    let history = c.args.history.now in
    let k = c.loop-event.event-index in
    let ended = c.loop-event.ended in
    sym (append-nil ended)
    ∙ subst (λ (left : List CoreEvent). IsTelling rules c.args.ended.now history left c.loop-event.claimed ended) (drop_all k history c.loop-event-test.false) c.loop-event.invariant

pub returns-clause-front : goal.returns-clause-front
returns-clause-front c =
    let rules = c.args.rules.now in
    let history = c.args.history.now in
    let k = c.loop-event.event-index in
    ([], subst (λ (left : List CoreEvent). IsTelling rules c.args.ended.now history left c.loop-event.claimed c.loop-event.ended) (drop_all k history c.loop-event-test.false) c.loop-event.invariant)
