use Rattle.std.proofs.Common.{ap, sym, subst}
use Rattle.tup_board.specs.Board.{BoardState}
use Rattle.tup_parallel.specs.Parallel.{Leaves}
use Rattle.tup_parallel.proofs.Leaving.{leaves_same}
use Rattle.tup_parallel.proofs.worked.worked.Goals as goal

pub returns-then-len-eq-ALONE-clause-leaves : goal.returns-then-len-eq-ALONE-clause-leaves
returns-then-len-eq-ALONE-clause-leaves g c = leaves_same g.S.Site g.R.Runner c.args.plan.now c.args.board c.args.crew.items c.requires.none

pub returns-in_default-clause-leaves : goal.returns-in_default-clause-leaves
returns-in_default-clause-leaves g c = leaves_same g.S.Site g.R.Runner c.args.plan.now c.args.board c.args.crew.items c.requires.none

pub returns-in-Err-clause-leaves : goal.returns-in-Err-clause-leaves
returns-in-Err-clause-leaves g c =
    subst (λ (b : BoardState _). Leaves g.S.Site g.R.Runner c.args.plan.now c.args.board b c.args.crew.items c.args.crew.items) (sym (ap (λ p. p.0) c.in-Err.ensures.memory))
    (leaves_same g.S.Site g.R.Runner c.args.plan.now c.args.board c.args.crew.items c.requires.none)
