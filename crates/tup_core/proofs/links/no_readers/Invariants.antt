use Rattle.std.proofs.Common.{◌≡◌, [], replicate}
use Rattle.tup_core.proofs.links.no_readers.Given as goal

abbrev pub invariant-loop : goal.invariant-loop
invariant-loop l = l.lists.items ≡ replicate l.counter []
