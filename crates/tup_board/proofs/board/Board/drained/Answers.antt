use Rattle.tup_board.proofs.Answering.{done_seen}
use Rattle.tup_board.proofs.board.Board.drained.Goals as goal

pub returns-in-None-2 : goal.returns-in-None-2
returns-in-None-2 g c =
    done_seen g.S.Site g.R.Runner _ _ _ _ _ _ _ c.self.invariant.0 c.self.invariant.1 c.self.view_is c.stopped.result c.stopped.ensures c.in-None.is c.has_bad.result c.has_bad.ensures c.if-has_bad.false
