use Rattle.std.proofs.Common.{map}
use Rattle.std.specs.Map.Iter.{deref_pair}
use Rattle.tup_refresh.proofs.Idling.{AllBack}
use Rattle.tup_refresh.proofs.idle.all_ask_back.Given as goal

abbrev pub invariant-loop-dir : goal.invariant-loop-dir
invariant-loop-dir l = AllBack l.nodes (map deref_pair l.yielded)
