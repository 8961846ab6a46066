use Rattle.std.proofs.Common.{ap, refl}
use Rattle.tup_lock.proofs.graph_lock.GraphLock.close.Goals as goal

pub returns-clause-opening : goal.returns-clause-opening
returns-clause-opening g c = ap (λ b. b.opening) c.close.ensures.began

pub returns-clause-steady : goal.returns-clause-steady
returns-clause-steady g c = λ none. c.close.ensures.stood (g.S.Site.faults c.close.result.site) (none, refl)
