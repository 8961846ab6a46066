use Rattle.tup_project.proofs.Alike.{projects_alike}
use Rattle.tup_project.proofs.laws.one_project.Goals as goal

pub returns : goal.returns
returns c = projects_alike
