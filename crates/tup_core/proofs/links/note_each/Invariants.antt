use Rattle.std.proofs.Common.{take}
use Rattle.tup_clean.specs.Queue.{IsNoted}
use Rattle.tup_core.proofs.links.note_each.Given as goal

abbrev pub invariant-loop-producer : goal.invariant-loop-producer
invariant-loop-producer l = IsNoted l.reader (take l.producer-index l.producers) l.fn.lists l.lists
