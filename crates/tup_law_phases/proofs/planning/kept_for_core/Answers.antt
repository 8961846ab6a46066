use Rattle.tup_law_phases.proofs.Planned.{kept_for_core}
use Rattle.tup_law_phases.proofs.planning.kept_for_core.Goals as goal

pub returns : goal.returns
returns c = λ next language known g links kept flags. kept_for_core next language known g kept links flags
