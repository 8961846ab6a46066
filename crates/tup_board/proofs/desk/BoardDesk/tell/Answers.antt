use Rattle.std.proofs.Common.{sym, subst}
use Rattle.tup_core.specs.declared.event.CoreEvent.TheVariants.{Ask}
use Rattle.tup_core.specs.declared.plan.Plan.{Plan}
use Rattle.tup_core.specs.Step.{IsEnabled}
use Rattle.tup_schedule.specs.Course.{now}
use Rattle.tup_board.proofs.Answering.{can_ask, enabled_there}
use Rattle.tup_board.proofs.Kept.{ask_kept, plan_here}
use Rattle.tup_board.proofs.Stamps.{has_on}
use Rattle.tup_board.proofs.desk.BoardDesk.tell.Goals as goal

pub ask-requires-clause-enabled : goal.ask-requires-clause-enabled
ask-requires-clause-enabled g c =
    let can = can_ask c.args.self.now c.args.seat c.args.text.now c.args.path.now c.requires.runs c.args.stamp c.requires.asks_for c.requires.files in
    subst (λ (p : Plan). IsEnabled p (now c.self.inside.course) (Ask c.args.seat c.args.text.now c.args.stamp))
    (sym (plan_here g.S.Site g.R.Runner _ _ _ _ _ _ _ c.self.invariant.0 c.self.invariant.1 c.self.view_is c.args.plan.now c.requires.plan))
    (enabled_there g.S.Site g.R.Runner _ _ _ _ _ _ _ c.self.invariant.0 c.self.invariant.1 c.self.view_is (Ask c.args.seat c.args.text.now c.args.stamp) can)

pub invariant_of-self-2 : goal.invariant_of-self-2
invariant_of-self-2 g c =
    let can = can_ask c.args.self.now c.args.seat c.args.text.now c.args.path.now c.requires.runs c.args.stamp c.requires.asks_for c.requires.files in
    let kept = ask_kept g.S.Site g.R.Runner _ _ _ _ _ _ _ c.self.invariant.0 c.self.invariant.1 c.self.view_is c.args.seat c.args.text.now c.args.stamp c.ask.new.self can c.in_ok-ask.ensures.ok in
    (kept.files, kept.sound, c.self.invariant.2, has_on _ _ _ _ kept.stamps c.self.invariant.3)
