use Rattle.tup_why.proofs.Circles.{none_in_circle}
use Rattle.tup_why.proofs.laws.none_waits_for_itself.Goals as goal

pub returns : goal.returns
returns c = λ g plan one acyclic. none_in_circle g plan one acyclic
