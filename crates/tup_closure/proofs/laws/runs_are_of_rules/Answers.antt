use Rattle.tup_closure.proofs.Stored.{stored}
use Rattle.tup_closure.proofs.laws.runs_are_of_rules.Goals as goal

pub returns : goal.returns
returns c = stored
