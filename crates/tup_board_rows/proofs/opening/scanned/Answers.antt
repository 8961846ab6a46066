use Rattle.tup_board_rows.proofs.opening.scanned.Goals as goal

pub returns : goal.returns
returns c = c.in_ok-graph.ensures.fresh
