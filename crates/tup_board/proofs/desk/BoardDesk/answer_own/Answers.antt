use Rattle.std.proofs.Common.{None}
use Rattle.tup_board.proofs.Answering.{can_ask_own}
use Rattle.tup_board.proofs.Kept.{ask_kept}
use Rattle.tup_board.proofs.Stamps.{has_on}
use Rattle.tup_board.proofs.desk.BoardDesk.answer_own.Goals as goal

pub invariant_of-self-2 : goal.invariant_of-self-2
invariant_of-self-2 g c =
    let kept = ask_kept g.S.Site g.R.Runner _ _ _ _ _ _ _ c.self.invariant.0 c.self.invariant.1 c.self.view_is c.args.seat c.args.text.now None c.ask.new.self (can_ask_own c.args.self.now c.args.seat c.args.text.now c.requires.runs c.requires.own) c.in_ok-ask.ensures.ok in
    (kept.files, kept.sound, c.self.invariant.2, has_on _ _ _ _ kept.stamps c.self.invariant.3)
