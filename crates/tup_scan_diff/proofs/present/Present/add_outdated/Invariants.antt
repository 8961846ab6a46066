use Rattle.std.proofs.Common.{map}
use Rattle.std.specs.Prelude.{Option}
use Rattle.std.specs.Map.Iter.{deref_pair}
use Rattle.tup_path.specs.Name.{Content}
use Rattle.tup_path.specs.Order.{by_names}
use Rattle.tup_scan_diff.specs.Present.{IsPresent}
use Rattle.tup_scan_diff.specs.Sets.{GrowsBy}
use Rattle.tup_scan_diff.specs.Stale.{IsOutdatedIn}
use Rattle.tup_scan_diff.proofs.present.Present.add_outdated.Given as goal

abbrev pub invariant-loop-dir : goal.invariant-loop-dir
invariant-loop-dir l = (config : Option Content) → IsPresent config l.self → GrowsBy by_names (IsOutdatedIn config l.self (map deref_pair l.yielded)) l.fn.dirs l.dirs
