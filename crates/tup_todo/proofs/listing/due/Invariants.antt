use Rattle.std.proofs.Common.{◌≡◌, map}
use Rattle.std.specs.Map.Iter.{deref_pair}
use Rattle.tup_todo.proofs.Listed.{due_of_flags}
use Rattle.tup_todo.proofs.listing.due.Given as goal

abbrev pub invariant-loop-number : goal.invariant-loop-number
invariant-loop-number l = l.due ≡ due_of_flags l.nodes.rules (map deref_pair l.yielded)
