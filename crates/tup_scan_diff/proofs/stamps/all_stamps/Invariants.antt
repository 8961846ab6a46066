use Rattle.std.proofs.Common.{◌≡◌, take}
use Rattle.std.specs.FinMap as finite
use Rattle.tup_scan_diff.proofs.stamps.all_stamps.Given as goal

abbrev pub invariant-loop-path : goal.invariant-loop-path
invariant-loop-path l = l.stamps ≡ finite.from_entries (take l.path-index l.files)
