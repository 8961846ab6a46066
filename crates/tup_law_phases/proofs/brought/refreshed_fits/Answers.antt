use Rattle.tup_law_phases.proofs.Fitting.{refresh_brings}
use Rattle.tup_law_phases.proofs.brought.refreshed_fits.Goals as goal

pub returns : goal.returns
returns c = λ language known g sources given rules reads links tree sees refreshed linked can. refresh_brings language known g sources given rules reads links tree sees refreshed linked can
