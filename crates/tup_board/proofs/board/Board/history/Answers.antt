use Rattle.tup_board.proofs.Kept.{sound_seen, events_seen, run_seen, honest_seen}
use Rattle.tup_board.proofs.board.Board.history.Goals as goal

pub returns-clause-events : goal.returns-clause-events
returns-clause-events g c = events_seen g.S.Site g.R.Runner _ _ c.self.invariant.1 c.self.view_is _ c.history.ensures.events

pub returns-clause-run : goal.returns-clause-run
returns-clause-run g c = run_seen g.S.Site g.R.Runner _ _ c.self.invariant.1 c.self.view_is _ c.history.ensures.events

pub returns-clause-honest : goal.returns-clause-honest
returns-clause-honest g c = honest_seen g.S.Site g.R.Runner _ _ c.self.invariant.1 c.self.view_is _ c.history.ensures.events

pub returns-clause-keeps : goal.returns-clause-keeps
returns-clause-keeps g c = sound_seen g.S.Site g.R.Runner _ _ c.self.invariant.1 c.self.view_is
