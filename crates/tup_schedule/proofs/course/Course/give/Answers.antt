use Rattle.std.proofs.Common.{arith}
use Rattle.std.proofs.lemmas.Option.{slice_get_within}
use Rattle.tup_core.specs.declared.event.CoreEvent.TheVariants.{Claim}
use Rattle.tup_core.specs.Step.{IsEnabled}
use Rattle.tup_schedule.proofs.Kept.{claim_kept}
use Rattle.tup_schedule.proofs.Views.{from_now, core_here, turn_here, claim_fits, seen_more}
use Rattle.tup_schedule.proofs.course.Course.give.Goals as goal

pub take-requires-clause-core : goal.take-requires-clause-core
take-requires-clause-core c = core_here _ _ _ _ _ _ c.self.invariant c.self.view_is c.args.plan.now c.requires.plan

pub take-requires-clause-enabled : goal.take-requires-clause-enabled
take-requires-clause-enabled c = from_now _ _ _ _ _ _ c.self.invariant c.self.view_is (λ s. IsEnabled c.args.plan.now s (Claim c.args.seat c.args.rule)) c.requires.enabled

pub take-requires-clause-room : goal.take-requires-clause-room
take-requires-clause-room c =
    let fits = claim_fits _ _ _ _ _ _ c.self.invariant c.self.view_is c.args.plan.now c.requires.plan c.args.seat c.args.rule c.requires.enabled in
    omega (arith, fits, c.self.inside.history.ok.0)

pub claim-requires-clause-rule : goal.claim-requires-clause-rule
claim-requires-clause-rule c = slice_get_within c.args.plan.now.rules c.args.rule c.requires.enabled.2.clear.0 c.requires.enabled.2.clear.1

pub claim-requires-clause-before : goal.claim-requires-clause-before
claim-requires-clause-before c = (_, turn_here _ _ _ _ _ _ c.self.invariant c.self.view_is c.args.plan.now c.requires.plan)

pub invariant_of-self : goal.invariant_of-self
invariant_of-self c =
    claim_kept _ _ _ _ _ _ c.self.invariant c.self.view_is c.args.plan.now c.requires.plan c.args.seat c.args.rule c.take.new.core c.take.new.history.items _ _ c.requires.enabled c.take.ensures.core c.take.ensures.first c.take.ensures.state c.take.ensures.history
    c.claim.ensures c.take.ensures.capacity

pub returns : goal.returns
returns c = seen_more _ _ (Claim c.args.seat c.args.rule) _ c.self.view_is c.take.ensures.history
