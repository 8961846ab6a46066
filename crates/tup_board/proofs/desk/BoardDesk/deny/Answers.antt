use Rattle.std.proofs.Common.{subst}
use Rattle.tup_core.specs.declared.event.CoreEvent.TheVariants.{Deny}
use Rattle.tup_core.specs.declared.plan.Plan.{Plan}
use Rattle.tup_core.specs.Step.{IsEnabled}
use Rattle.tup_board.specs.Board.{state}
use Rattle.tup_board.proofs.Kept.{deny_kept}
use Rattle.tup_board.proofs.Stamps.{has_on}
use Rattle.tup_board.proofs.desk.BoardDesk.deny.Goals as goal

pub invariant_of-self-2 : goal.invariant_of-self-2
invariant_of-self-2 g c =
    let can = subst (λ (p : Plan). IsEnabled p (state c.args.self.now) (Deny c.args.seat c.args.text.now c.args.verdict)) c.requires.plan c.requires.denied in
    let kept = deny_kept g.S.Site g.R.Runner _ _ _ _ _ _ _ c.self.invariant.0 c.self.invariant.1 c.self.view_is c.args.seat c.args.text.now c.args.verdict c.deny.new.self can c.in_ok-deny.ensures.ok in
    (kept.files, kept.sound, c.self.invariant.2, has_on _ _ _ _ kept.stamps c.self.invariant.3)
