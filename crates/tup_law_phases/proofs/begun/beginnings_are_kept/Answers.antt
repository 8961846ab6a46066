use Rattle.tup_law_phases.proofs.Beginning.{begun_kept}
use Rattle.tup_law_phases.proofs.begun.beginnings_are_kept.Goals as goal

pub returns : goal.returns
returns g c = λ next known store durable. begun_kept next known _ _ store durable
