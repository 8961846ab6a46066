use Rattle.std.proofs.Common.{sym, ap}
use Rattle.tup_board.specs.Board.{BoardState, plan_of}
use Rattle.tup_board_rows.proofs.opening.made.Goals as goal

pub new-requires : goal.new-requires
new-requires g c = record {
  fresh = c.requires.ready.fresh;
  stands = c.requires.ready.stands;
  seen = c.requires.ready.seen;
  plan = c.requires.plan;
  apart = c.requires.apart;
}

pub returns-in-Ok-clause-plan : goal.returns-in-Ok-clause-plan
returns-in-Ok-clause-plan g c = sym (ap plan_of c.in-Ok.ensures.board)

pub returns-in-Ok-clause-none : goal.returns-in-Ok-clause-none
returns-in-Ok-clause-none g c = ap (λ (b : BoardState _). b.history) c.in-Ok.ensures.board
