use Rattle.std.proofs.Common.{◌≡◌, ◌<◌, ◌+◌, ℕ, List, ◌∷◌, map, Option, Some, ap, refl, drop, get_or, length, slice_set, sym, subst, ◌∙◌}
use Rattle.std.proofs.lemmas.List.{drop_all}
use Rattle.tup_core.specs.declared.event.CoreEvent.{CoreEvent}
use Rattle.tup_core.specs.declared.event.CoreEvent.TheVariants.{Claim, Finish}
use Rattle.tup_update.specs.declared.by_rule.ByRule.{ByRule}
use Rattle.tup_update.proofs.Taking.{IsTakingEnds, all_taken, ends_claim, ends_finish, ends_other, named_end, next_left, no_ends}
use Rattle.tup_update.proofs.by_rule.ByRule.ended.Goals.{in-Claim, in-Finish, in_default}
use Rattle.tup_update.proofs.by_rule.ByRule.ended.Goals as goal

pub loop-event-init : goal.loop-event-init
loop-event-init g c = no_ends c.args.self c.args.history.now c.requires.room c.requires.none c.requires.once c.requires.named

-- what is left begins with the next event
left_so : {V : Type 0} (first values : ByRule V) (history : List CoreEvent) (k : ℕ) (claimed : List (Option ℕ)) (event it : CoreEvent) → k < length history → event ≡ get_or history k event → event ≡ it
    → IsTakingEnds first history (drop k history) claimed values → IsTakingEnds first history (it ∷ drop (k + 1) history) claimed values
left_so first values history k claimed event it within at is =
    subst (λ (left : List CoreEvent). IsTakingEnds first history left claimed values) (next_left history k it within (subst (λ (e : CoreEvent). e ≡ get_or history k e) is at))

pub begin_any-requires-clause-named : goal.begin_any-requires-clause-named
begin_any-requires-clause-named g c =
    let history = c.args.history.now in
    let k = c.loop-event.event-index in
    let it = c.in-Finish in
    named_end c.args.self c.loop-event.self history (drop (k + 1) history) c.loop-event.claimed it.seat it.verdict it.writes
    (left_so c.args.self c.loop-event.self history k c.loop-event.claimed c.event-item.result (Finish it.seat it.verdict it.writes) c.loop-event-test.true c.event-item.is it.is c.loop-event.invariant)
    c.claimed_at.result c.claimed_at.ensures

pub loop-event-preserved : goal.loop-event-preserved
loop-event-preserved g c =
    let history = c.args.history.now in
    let k = c.loop-event.event-index in
    let claimed = c.loop-event.claimed in
    let left = drop (k + 1) history in
    let event = c.event-item.result in
    let so : (it : CoreEvent) → event ≡ it → IsTakingEnds c.args.self history (it ∷ left) claimed c.loop-event.self =
    λ it is. left_so c.args.self c.loop-event.self history k claimed event it c.loop-event-test.true c.event-item.is is c.loop-event.invariant in
    elim c.match-event.branch [
      | in-Claim w ↦
          let seat = w.in-Claim.seat in
          let number = w.in-Claim.rule in
          subst (λ (l : List (Option ℕ)). IsTakingEnds c.args.self history left l c.match-event.self) (sym (w.claimed-is ∙ w.claim_at.ensures))
          (subst (IsTakingEnds c.args.self history left (slice_set claimed seat (Some number))) (sym w.self-is)
          (ends_claim c.args.self c.loop-event.self history left claimed seat number (so (Claim seat number) w.in-Claim.is)))
      | in-Finish w ↦
          let it = w.in-Finish in
          subst (λ (l : List (Option ℕ)). IsTakingEnds c.args.self history left l c.match-event.self) (sym w.claimed-is)
          (subst (IsTakingEnds c.args.self history left claimed) (sym w.self-is)
          (ends_finish c.args.self c.loop-event.self history left claimed it.seat it.verdict it.writes (so (Finish it.seat it.verdict it.writes) it.is) w.claimed_at.result w.claimed_at.ensures w.begin_any.new.self
          w.begin_any.ensures.room w.begin_any.ensures.begun w.begin_any.ensures.others w.begin_any.ensures.none))
      | in_default w ↦
          subst (λ (l : List (Option ℕ)). IsTakingEnds c.args.self history left l c.match-event.self) (sym w.claimed-is)
          (subst (IsTakingEnds c.args.self history left claimed) (sym w.self-is)
          (ends_other c.args.self c.loop-event.self history left claimed event w.in_default.not-Claim w.in_default.not-Finish (so event refl)))
    ]

pub returns : goal.returns
returns g c =
    let history = c.args.history.now in
    let k = c.loop-event.event-index in
    ap (map Some) c.from_vec.ensures
    ∙ all_taken c.args.self history (drop k history) c.loop-event.claimed c.loop-event.self (drop_all k history c.loop-event-test.false) c.loop-event.invariant
