use Rattle.tup_law_phases.proofs.Unchanged.{comes_to}
use Rattle.tup_law_phases.proofs.skipped.kept_comes_to.Goals as goal

pub returns : goal.returns
returns c = λ next language known g sources given links kept refreshed none lost. comes_to g sources given none lost next language known links kept refreshed
