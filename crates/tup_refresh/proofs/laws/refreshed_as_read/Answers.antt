use Rattle.tup_refresh.proofs.Ending.{refreshed_read}
use Rattle.tup_refresh.proofs.laws.refreshed_as_read.Goals as goal

pub returns : goal.returns
returns c = refreshed_read
