use Rattle.tup_partial.proofs.Flags.{stored}
use Rattle.tup_partial.proofs.laws.flags_are_of_rules.Goals as goal

pub returns : goal.returns
returns c = stored
