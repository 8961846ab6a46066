use Rattle.tup_proc.proofs.Logs.{refused_is_no_log}
use Rattle.tup_proc.proofs.laws.refused_is_no_log.Goals as goal

pub returns : goal.returns
returns c = refused_is_no_log
