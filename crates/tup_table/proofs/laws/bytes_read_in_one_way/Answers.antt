use Rattle.tup_table.proofs.Stores.{reads_one}
use Rattle.tup_table.proofs.laws.bytes_read_in_one_way.Goals as goal

pub returns : goal.returns
returns c = reads_one
