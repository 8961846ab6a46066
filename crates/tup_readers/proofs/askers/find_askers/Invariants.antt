use Rattle.std.proofs.Common.{◌≡◌, map}
use Rattle.std.specs.Map.Iter.{deref_pair}
use Rattle.tup_readers.specs.Askers.{has_asked, those_in}
use Rattle.tup_readers.proofs.askers.find_askers.Given as goal

abbrev pub invariant-loop-dir : goal.invariant-loop-dir
invariant-loop-dir l = l.dirs.items ≡ those_in (has_asked l.question) (map deref_pair l.yielded)
