use Rattle.std.proofs.Common.{take}
use Rattle.tup_refresh.specs.Idle.{AreBack, IsBack}
use Rattle.tup_refresh.proofs.idle.are_back.Given as goal

abbrev pub invariant-loop-one : goal.invariant-loop-one
invariant-loop-one l = AreBack l.nodes l.reader (take l.one-index l.asked) × IsBack l.nodes l.reader l.last
