use Rattle.tup_refresh.proofs.Recorded.{records_serve}
use Rattle.tup_refresh.proofs.laws.true_records_serve.Goals as goal

pub returns : goal.returns
returns c = λ language known sources g reads is tree records. records_serve language known reads sources g is tree records
