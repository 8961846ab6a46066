use Rattle.std.proofs.Common.{◌<◌}
use Rattle.tup_scan_diff.specs.Touched.{FindsRoots}
use Rattle.tup_scan_diff.proofs.present.Present.push_every.Given as goal

abbrev pub invariant-loop-number : goal.invariant-loop-number
invariant-loop-number l = FindsRoots l.self (λ number. number < l.number) l.fn.roots l.roots
