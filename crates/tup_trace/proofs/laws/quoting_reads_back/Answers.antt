use Rattle.tup_trace.proofs.Quotes.{reads_back}
use Rattle.tup_trace.proofs.laws.quoting_reads_back.Goals as goal

pub returns : goal.returns
returns c = reads_back
