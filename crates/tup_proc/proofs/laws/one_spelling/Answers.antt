use Rattle.tup_proc.proofs.Logs.{one_spelling}
use Rattle.tup_proc.proofs.laws.one_spelling.Goals as goal

pub returns : goal.returns
returns c = one_spelling
