use Rattle.std.proofs.Common.{Result, subst}
use Rattle.std.specs.Result.{IfOk}
use Rattle.tup_graph.specs.declared.fault.GraphFault.{GraphFault}
use Rattle.tup_stored_graph.specs.Held.{Held, StandsFor}
use Rattle.tup_board_rows.proofs.opening.noted.Goals as goal

pub note-requires-clause-stands : goal.note-requires-clause-stands
note-requires-clause-stands g c = λ tells.
    subst (λ (r : Result Held GraphFault). IfOk r (λ graph. StandsFor g.S.Site.world g.S.Site.moment g.S.Site.left_since graph c.open.new.site)) c.in-Ok.is (c.open.ensures.stands tells)
