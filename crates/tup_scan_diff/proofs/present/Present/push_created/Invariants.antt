use Rattle.std.proofs.Common.{◌≡◌, ◌++◌, map}
use Rattle.std.specs.Map.Iter.{deref}
use Rattle.tup_scan_diff.specs.Edits.{create_edits}
use Rattle.tup_scan_diff.proofs.present.Present.push_created.Given as goal

abbrev pub invariant-loop-dir : goal.invariant-loop-dir
invariant-loop-dir l = l.edits ≡ l.fn.edits ++ create_edits l.self.nodes.now (map deref l.yielded)
