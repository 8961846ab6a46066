use Rattle.tup_core.proofs.SameLaws.{verdict-tells}
use Rattle.tup_core.proofs.same.same_verdict.Goals as goal

pub returns : goal.returns
returns c = verdict-tells _ _ _ c.eq.ensures
