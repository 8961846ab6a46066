use Rattle.std.proofs.Common.{take}
use Rattle.std.specs.Prelude.{Contains}
use Rattle.tup_scan_diff.specs.Touched.{FindsRoots}
use Rattle.tup_scan_diff.proofs.present.Present.push_all.Given as goal

abbrev pub invariant-loop-number : goal.invariant-loop-number
invariant-loop-number l = FindsRoots l.self (Contains (take l.number-index l.numbers)) l.fn.roots l.roots
