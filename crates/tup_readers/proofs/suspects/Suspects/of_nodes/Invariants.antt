use Rattle.std.proofs.Common.{map}
use Rattle.std.specs.Map.Iter.{deref_pair}
use Rattle.tup_readers.specs.Suspects.{HasOthersOf}
use Rattle.tup_readers.proofs.suspects.Suspects.of_nodes.Given as goal

abbrev pub invariant-loop-number : goal.invariant-loop-number
invariant-loop-number l = HasOthersOf l.nodes.seen (map deref_pair l.yielded) l.suspects.numbers
