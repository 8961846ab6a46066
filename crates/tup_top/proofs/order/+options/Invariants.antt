use Rattle.std.proofs.Common.{length}
use Rattle.tup_top.proofs.order.+options.Given as goal

abbrev pub decreases-options : goal.decreases-options
decreases-options l = length l.words.now
