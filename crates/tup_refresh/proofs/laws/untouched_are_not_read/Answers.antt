use Rattle.tup_refresh.proofs.Untouched.{untouched_not_read}
use Rattle.tup_refresh.proofs.laws.untouched_are_not_read.Goals as goal

pub returns : goal.returns
returns c = untouched_not_read
