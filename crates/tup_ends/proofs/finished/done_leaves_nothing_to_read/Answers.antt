use Rattle.tup_ends.proofs.Unread.{none_read_then}
use Rattle.tup_ends.proofs.finished.done_leaves_nothing_to_read.Goals as goal

pub returns : goal.returns
returns c = none_read_then
