use Rattle.tup_board.proofs.Kept.{sound_seen}
use Rattle.tup_board.proofs.board.Board.into_parts.Goals as goal

pub returns-clause-keeps : goal.returns-clause-keeps
returns-clause-keeps g c = sound_seen g.S.Site g.R.Runner _ _ c.self.invariant.1 c.self.view_is
