use Rattle.std.proofs.Common.{take}
use Rattle.tup_link.specs.Known.{Knows}
use Rattle.tup_link.proofs.order.known.Given as goal

abbrev pub invariant-loop-path : goal.invariant-loop-path
invariant-loop-path l = Knows l.known (take l.path-index l.paths)
