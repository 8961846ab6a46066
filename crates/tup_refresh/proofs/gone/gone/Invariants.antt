use Rattle.std.proofs.Common.{◌≡◌, map}
use Rattle.std.specs.Map.Iter.{deref_pair}
use Rattle.tup_refresh.specs.Refresh.{gone_among}
use Rattle.tup_refresh.proofs.gone.gone.Given as goal

abbrev pub invariant-loop-dir : goal.invariant-loop-dir
invariant-loop-dir l = l.dirs ≡ gone_among l.sources (map deref_pair l.yielded)
