use Rattle.std.proofs.Common.{◌≡◌, map}
use Rattle.std.specs.Map.Iter.{deref_pair}
use Rattle.tup_ledger.proofs.Owned.{paths_of}
use Rattle.tup_ledger.proofs.owning.owned_paths.Given as goal

abbrev pub invariant-loop-path : goal.invariant-loop-path
invariant-loop-path l = l.paths ≡ paths_of (map deref_pair l.yielded)
