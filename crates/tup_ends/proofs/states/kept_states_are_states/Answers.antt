use Rattle.tup_ends.proofs.Stated.{kept_stated}
use Rattle.tup_ends.proofs.states.kept_states_are_states.Goals as goal

pub returns : goal.returns
returns c = λ next old new keeps. kept_stated next old new keeps
