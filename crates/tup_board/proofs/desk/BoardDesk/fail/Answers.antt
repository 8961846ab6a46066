use Rattle.std.proofs.Common.{subst}
use Rattle.tup_board.specs.Sound.{IsTrueFault}
use Rattle.tup_board.proofs.Answering.{site_kept, large_kept, full_kept}
use Rattle.tup_board.proofs.Stamps.{has_on}
use Rattle.tup_board.proofs.desk.BoardDesk.fail.Goals as goal

pub invariant_of-self : goal.invariant_of-self
invariant_of-self g c =
    let kept = site_kept g.S.Site g.R.Runner _ _ _ _ _ _ _ c.self.invariant.0 c.self.invariant.1 c.self.view_is c.args.seat c.end_by.new.self c.requires.runs (subst (IsTrueFault g.S.Site g.R.Runner c.args.self.now c.args.seat) c.in-Site.is c.requires.true_cause) c.end_by.ensures in
    (kept.files, kept.sound, c.self.invariant.2, has_on _ _ _ _ kept.stamps c.self.invariant.3)

pub invariant_of-self-in-TooLarge : goal.invariant_of-self-in-TooLarge
invariant_of-self-in-TooLarge g c =
    let kept = large_kept g.S.Site g.R.Runner _ _ _ _ _ _ _ c.self.invariant.0 c.self.invariant.1 c.self.view_is c.args.seat c.in-TooLarge.bytes c.end_by-in-TooLarge.new.self c.requires.runs (subst (IsTrueFault g.S.Site g.R.Runner c.args.self.now c.args.seat) c.in-TooLarge.is c.requires.true_cause) c.end_by-in-TooLarge.ensures in
    (kept.files, kept.sound, c.self.invariant.2, has_on _ _ _ _ kept.stamps c.self.invariant.3)

pub invariant_of-self-in-Full : goal.invariant_of-self-in-Full
invariant_of-self-in-Full g c =
    let kept = full_kept g.S.Site g.R.Runner _ _ _ _ _ _ _ c.self.invariant.0 c.self.invariant.1 c.self.view_is c.args.seat c.end_by-in-Full.new.self c.requires.runs (subst (IsTrueFault g.S.Site g.R.Runner c.args.self.now c.args.seat) c.in-Full.is c.requires.true_cause) c.end_by-in-Full.ensures in
    (kept.files, kept.sound, c.self.invariant.2, has_on _ _ _ _ kept.stamps c.self.invariant.3)
