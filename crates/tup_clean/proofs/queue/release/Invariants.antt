use Rattle.std.proofs.Common.{take}
use Rattle.tup_clean.specs.Queue.{IsReleased}
use Rattle.tup_clean.proofs.queue.release.Given as goal

abbrev pub invariant-loop-reader : goal.invariant-loop-reader
invariant-loop-reader l = IsReleased (take l.reader-index l.readers) l.fn.waits l.waits l.fn.ready l.ready
