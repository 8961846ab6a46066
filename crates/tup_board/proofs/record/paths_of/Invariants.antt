use Rattle.std.proofs.Common.{take}
use Rattle.tup_board.specs.Ends.{AreRecorded}
use Rattle.tup_board.proofs.record.paths_of.Given as goal

abbrev pub invariant-loop-ask : goal.invariant-loop-ask
invariant-loop-ask l = AreRecorded l.dir (take l.ask-index l.asks) l.paths
