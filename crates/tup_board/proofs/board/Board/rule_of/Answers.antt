use Rattle.tup_board.proofs.Answering.{rule_seen}
use Rattle.tup_board.proofs.board.Board.rule_of.Goals as goal

pub returns : goal.returns
returns g c = rule_seen g.S.Site g.R.Runner _ _ _ _ _ _ _ c.self.invariant.0 c.self.invariant.1 c.self.view_is c.args.seat c.rule_run.result.now c.rule_run.ensures
