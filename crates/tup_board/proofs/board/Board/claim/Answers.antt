use Rattle.std.proofs.Common.{◌≡◌, None}
use Rattle.tup_schedule.specs.Course.{Claims, now}
use Rattle.tup_board.proofs.Kept.{plan_here, to_course, claim_kept, both_seen, rest_seen}
use Rattle.tup_board.proofs.Stamps.{has_on}
use Rattle.tup_board.proofs.board.Board.claim.Goals as goal

pub claim-requires-clause-plan : goal.claim-requires-clause-plan
claim-requires-clause-plan g c = plan_here g.S.Site g.R.Runner _ _ _ _ _ _ _ c.self.invariant.0 c.self.invariant.1 c.self.view_is c.args.plan.now c.requires.plan

pub claim-requires-clause-free : goal.claim-requires-clause-free
claim-requires-clause-free g c = to_course g.S.Site g.R.Runner _ _ _ _ _ _ _ c.self.invariant.0 c.self.invariant.1 c.self.view_is (λ it. (now it).seats c.args.seat ≡ None) c.requires.free

pub invariant_of-self : goal.invariant_of-self
invariant_of-self g c =
    let kept = claim_kept g.S.Site g.R.Runner _ _ _ _ _ _ _ c.self.invariant.0 c.self.invariant.1 c.self.view_is c.args.seat c.claim.result c.claim.new.self c.requires.seat c.requires.free c.claim.ensures in
    (kept.files, kept.sound, c.self.invariant.2, has_on _ _ _ _ kept.stamps c.self.invariant.3)

pub returns-clause-claims : goal.returns-clause-claims
returns-clause-claims g c =
    both_seen g.S.Site g.R.Runner _ _ _ _ _ _ _ c.self.invariant.0 c.self.invariant.1 c.self.view_is (λ old new. Claims c.args.seat old c.claim.result new) c.claim.new.self
    (claim_kept g.S.Site g.R.Runner _ _ _ _ _ _ _ c.self.invariant.0 c.self.invariant.1 c.self.view_is c.args.seat c.claim.result c.claim.new.self c.requires.seat c.requires.free c.claim.ensures) c.claim.ensures

pub returns-clause-rest : goal.returns-clause-rest
returns-clause-rest g c =
    rest_seen g.S.Site g.R.Runner _ _ _ _ _ _ _ c.self.invariant.0 c.self.invariant.1 c.self.view_is c.claim.new.self
    (claim_kept g.S.Site g.R.Runner _ _ _ _ _ _ _ c.self.invariant.0 c.self.invariant.1 c.self.view_is c.args.seat c.claim.result c.claim.new.self c.requires.seat c.requires.free c.claim.ensures)
