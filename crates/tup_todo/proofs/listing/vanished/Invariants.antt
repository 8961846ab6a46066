use Rattle.std.proofs.Common.{◌≡◌, map}
use Rattle.std.specs.Map.Iter.{deref_pair}
use Rattle.tup_todo.proofs.Listed.{vanished_of}
use Rattle.tup_todo.proofs.listing.vanished.Given as goal

abbrev pub invariant-loop-path : goal.invariant-loop-path
invariant-loop-path l = l.paths ≡ vanished_of l.nodes (map deref_pair l.yielded)
