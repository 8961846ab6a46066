use Rattle.std.proofs.Common.{sym, ap, ◌∙◌}
use Rattle.std.specs.Option.{option_copied}
use Rattle.tup_board.proofs.Answering.{denied_as}
use Rattle.tup_board.proofs.board.Board.was_denied.Goals as goal

pub returns-in-Some : goal.returns-in-Some
returns-in-Some g c =
    denied_as g.S.Site g.R.Runner _ _ _ _ _ _ _ c.self.invariant.0 c.self.invariant.1 c.self.view_is c.args.seat c.in-Some.running.now (sym c.running.ensures ∙ ap option_copied c.in-Some.is) c.is_some.result c.is_some.ensures
