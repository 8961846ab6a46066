use Rattle.std.proofs.Common.{◌≡◌, ◌++◌, map}
use Rattle.std.specs.Map.Iter.{deref_pair}
use Rattle.tup_scan_diff.specs.Edits.{gone_edits}
use Rattle.tup_scan_diff.proofs.present.Present.push_gone.Given as goal

abbrev pub invariant-loop-path : goal.invariant-loop-path
invariant-loop-path l = l.edits ≡ l.fn.edits ++ gone_edits l.stamps (map deref_pair l.yielded)
