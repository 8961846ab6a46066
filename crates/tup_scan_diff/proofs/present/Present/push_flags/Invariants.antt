use Rattle.std.proofs.Common.{◌≡◌, ◌++◌, take}
use Rattle.tup_scan_diff.specs.Edits.{modify_edits}
use Rattle.tup_scan_diff.proofs.present.Present.push_flags.Given as goal

abbrev pub invariant-loop-number : goal.invariant-loop-number
invariant-loop-number l = l.edits ≡ l.fn.edits ++ modify_edits l.self.nodes.now (take l.number-index l.numbers)
