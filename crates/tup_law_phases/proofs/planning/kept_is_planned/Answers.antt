use Rattle.tup_law_phases.proofs.Planned.{planned}
use Rattle.tup_law_phases.proofs.planning.kept_is_planned.Goals as goal

pub returns : goal.returns
returns c = λ next language known g tree plan files links kept flags seen made rules reach stamps is_known contents.
    planned next language known g kept links flags tree plan files seen made rules reach stamps is_known contents
