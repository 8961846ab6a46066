use Rattle.tup_readings.proofs.Outcomes.{outcomes_alike}
use Rattle.tup_readings.proofs.laws.one_outcome.Goals as goal

pub returns : goal.returns
returns c = outcomes_alike
